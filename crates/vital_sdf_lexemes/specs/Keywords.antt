-- The keywords (IEEE 1497), in small letters, each with its kind.
use Rattle.std.specs.Prelude.{ℕ, List, [], ◌∷◌, codes}
use Rattle.vital_sdf_lexemes.specs.declared.kinds.Kind.{Kind}
use Rattle.vital_sdf_lexemes.specs.declared.kinds.Kind.TheVariants as kind

abbrev pub keywords : List (List ℕ × Kind)
keywords =
    (codes "absolute", kind.Absolute) ∷
    (codes "bidirectskew", kind.BidirectSkew) ∷
    (codes "cell", kind.Cell) ∷
    (codes "celltype", kind.CellType) ∷
    (codes "cond", kind.Cond) ∷
    (codes "condelse", kind.CondElse) ∷
    (codes "date", kind.Date) ∷
    (codes "delay", kind.Delay) ∷
    (codes "delayfile", kind.DelayFile) ∷
    (codes "design", kind.Design) ∷
    (codes "device", kind.Device) ∷
    (codes "divider", kind.Divider) ∷
    (codes "hold", kind.Hold) ∷
    (codes "increment", kind.Increment) ∷
    (codes "instance", kind.Instance) ∷
    (codes "interconnect", kind.Interconnect) ∷
    (codes "iopath", kind.IoPath) ∷
    (codes "label", kind.Label) ∷
    (codes "negedge", kind.NegEdge) ∷
    (codes "netdelay", kind.NetDelay) ∷
    (codes "nochange", kind.NoChange) ∷
    (codes "pathpulse", kind.PathPulse) ∷
    (codes "pathpulsepercent", kind.PathPulsePercent) ∷
    (codes "period", kind.Period) ∷
    (codes "port", kind.Port) ∷
    (codes "posedge", kind.PosEdge) ∷
    (codes "process", kind.Process) ∷
    (codes "program", kind.Program) ∷
    (codes "recovery", kind.Recovery) ∷
    (codes "recrem", kind.RecRem) ∷
    (codes "removal", kind.Removal) ∷
    (codes "retain", kind.Retain) ∷
    (codes "sdfversion", kind.SdfVersion) ∷
    (codes "setup", kind.Setup) ∷
    (codes "setuphold", kind.SetupHold) ∷
    (codes "skew", kind.Skew) ∷
    (codes "temperature", kind.Temperature) ∷
    (codes "timescale", kind.TimeScale) ∷
    (codes "timingcheck", kind.TimingCheck) ∷
    (codes "timingenv", kind.TimingEnv) ∷
    (codes "vendor", kind.Vendor) ∷
    (codes "version", kind.Version) ∷
    (codes "voltage", kind.Voltage) ∷
    (codes "width", kind.Width) ∷
    []
