-- What a line says, without where its bytes lie in memory.
use Rattle.std.specs.Prelude.{List, Option, Result, Ok, Err, if◌then◌else◌}
use Rattle.vital_identifiers.specs.Identifiers.{folded}
use Rattle.vital_stim.specs.PortForm.{is_port}
use Rattle.vital_base.specs.declared.ports.PortBit.{PortBit}
use Rattle.vital_stim.specs.Stimuli.{◌>>=◌, Stimulus, among_given}
use Rattle.vital_stim.specs.declared.entry.Entry.{Entry}
use Rattle.vital_stim.specs.declared.fault.StimWhy.{StimWhy}
use Rattle.vital_stim.specs.declared.fault.StimWhy.TheVariants.{Line}

abbrev pub stimulus : Entry → Stimulus
stimulus entry = record { time = entry.time; name = folded entry.port.now; value = entry.value }

-- The form of an entry's port is not tested yet.
abbrev pub stimulus_result : Result Entry StimWhy → Result Stimulus StimWhy
stimulus_result (Ok entry) = if is_port entry.port.now then Ok (stimulus entry) else Err Line
stimulus_result (Err why) = Err why

-- What an entry says where these ports are given, or none, or the first test that its port fails.
abbrev pub stimulus_told : Option (List PortBit) → Entry → Result Stimulus StimWhy
stimulus_told given entry = stimulus_result (Ok entry) >>= among_given given
