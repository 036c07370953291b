-- The numbers of the kinds, by which tokens and grammars name them.
use Rattle.std.specs.Prelude.{ℕ}
use Rattle.vital_sdf_lexemes.specs.declared.kinds.Kind.{Kind}
use Rattle.vital_sdf_lexemes.specs.declared.kinds.Kind.TheVariants as kind

-- The number of a kind: its place in the list of kinds, from 0.
abbrev pub number : Kind → ℕ
number kind.LeftParenthesis = 0
number kind.RightParenthesis = 1
number kind.Colon = 2
number kind.Text = 3
number kind.Number = 4
number kind.Word = 5
number kind.DelayFile = 6
number kind.SdfVersion = 7
number kind.Design = 8
number kind.Date = 9
number kind.Vendor = 10
number kind.Program = 11
number kind.Version = 12
number kind.Divider = 13
number kind.Voltage = 14
number kind.Process = 15
number kind.Temperature = 16
number kind.TimeScale = 17
number kind.Cell = 18
number kind.CellType = 19
number kind.Instance = 20
number kind.TimingEnv = 21
number kind.Label = 22
number kind.Delay = 23
number kind.Absolute = 24
number kind.Increment = 25
number kind.PathPulse = 26
number kind.PathPulsePercent = 27
number kind.IoPath = 28
number kind.Port = 29
number kind.Interconnect = 30
number kind.Device = 31
number kind.NetDelay = 32
number kind.Cond = 33
number kind.CondElse = 34
number kind.Retain = 35
number kind.PosEdge = 36
number kind.NegEdge = 37
number kind.TimingCheck = 38
number kind.Setup = 39
number kind.Hold = 40
number kind.SetupHold = 41
number kind.Recovery = 42
number kind.Removal = 43
number kind.RecRem = 44
number kind.Skew = 45
number kind.BidirectSkew = 46
number kind.Width = 47
number kind.Period = 48
number kind.NoChange = 49
