-- The refusal of a design under a top.
use Rattle.std.specs.Prelude.{◌≡◌, ℕ, List, codes, Some, Result, Ok, Err}
use Rattle.vital_base.specs.declared.breach.Breach.{Breach}
use Rattle.vital_netlist.specs.Designs.{Design}
use Rattle.vital_netlist.specs.Elaboration.{Fault, IsElaborated}
use Rattle.vital_netlist.specs.declared.net_fault.NetLimit.{NetLimit}
use Rattle.vital_netlist.specs.declared.net_fault.NetLimit.TheVariants as net_limit
use Rattle.vital_netlist.specs.Refusals.{Mark, NetFault, Refusal, Net, Limit, refused as refused_as}
use Rattle.vital_netlist.specs.Refusals as net
use Rattle.vital_nodes.specs.declared.unit.Units.{Units}
use Rattle.vital_report.specs.Lines.{Said, Spot, refused_cell, refused_limit, refused_netlist}
use Rattle.vital_report.specs.declared.why.Limit.TheVariants as printed_limit
use Rattle.vital_report.specs.declared.why.NetlistWhy.{NetlistWhy}
use Rattle.vital_report.specs.declared.why.NetlistWhy.TheVariants as why
use Rattle.vital_answers.specs.Answer.{Answer, refused}
use Rattle.vital_answers.specs.Cells.{limit_line}
use Rattle.vital_answers.specs.Refusals.{spot_of}
use Rattle.vital_answers.specs.declared.status.Status.TheVariants as status
use Rattle.vital_words.specs.declared.job.NamedFile.{NamedFile}

-- A place in no file.
abbrev pub nowhere : Spot
nowhere = record { file = codes "-"; line = 0; column = 0 }

abbrev pub marked_line : List NamedFile → NetlistWhy → Mark → Said
marked_line files w m = refused_netlist w (spot_of files m.place) m.name

abbrev pub cell_line : List NamedFile → Breach → Said
cell_line files b = refused_cell (spot_of files b.place) b.clause

-- What is wrong in a netlist, by the place and the name that stands there; a missing top by its name alone.
abbrev pub net_line : List NamedFile → List ℕ → NetFault → Said
net_line files top net.NoTop = refused_netlist why.NoTop nowhere (Some top)
net_line files top (net.UnknownUnit m) = marked_line files why.UnknownUnit m
net_line files top (net.Loop m) = marked_line files why.Loop m
net_line files top (net.UnknownPort m) = marked_line files why.UnknownPort m
net_line files top (net.UnknownSignal m) = marked_line files why.UnknownSignal m
net_line files top (net.WidthDiffers m) = marked_line files why.WidthDiffers m
net_line files top (net.TypeDiffers m) = marked_line files why.TypeDiffers m
net_line files top (net.TwiceAssociated m) = marked_line files why.TwiceAssociated m
net_line files top (net.TwiceDeclared m) = marked_line files why.TwiceDeclared m
net_line files top (net.NotStructural m) = marked_line files why.NotStructural m
net_line files top (net.OutputToInputPort m) = marked_line files why.OutputToInputPort m
net_line files top (net.TwoDrivers' m) = marked_line files why.TwoDrivers m
net_line files top (net.GenericMap m) = marked_line files why.GenericMap m
net_line files top (net.NotLevel1 b) = cell_line files b

-- A limit that is passed.
abbrev pub net_limit_line : List NamedFile → NetLimit → Said
net_limit_line files (net_limit.Instances place) = refused_limit printed_limit.Instances (spot_of files place)
net_limit_line files (net_limit.Nets place) = refused_limit printed_limit.Nets (spot_of files place)
net_limit_line files (net_limit.Depth place) = refused_limit printed_limit.Depth (spot_of files place)
net_limit_line files (net_limit.Cell passed) = limit_line files passed

abbrev pub refused_design : List NamedFile → List ℕ → Refusal → Answer
refused_design files top (Net f) = refused (net_line files top f) status.Netlist
refused_design files top (Limit l) = refused (net_limit_line files l) status.Limit

-- What is answered to a top with a design, by what is answered to designs; or to one with a fault.
abbrev pub IsElaboratedAnswer : (Design → Answer → Type 0) → List NamedFile → List ℕ → Result Design Fault → Answer → Type 0
IsElaboratedAnswer IsAnswer files top (Ok d) answer = IsAnswer d answer
IsElaboratedAnswer IsAnswer files top (Err f) answer = answer ≡ refused_design files top (refused_as f)

-- What is answered to a top of a library.
abbrev pub IsUnderAnswer : (Design → Answer → Type 0) → List NamedFile → List Units → List ℕ → Answer → Type 0
IsUnderAnswer IsAnswer files library top answer =
    (elaborated : Result Design Fault) × IsElaborated library top elaborated × IsElaboratedAnswer IsAnswer files top elaborated answer
