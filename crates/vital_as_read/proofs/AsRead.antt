-- What is declared along sound tokens is as read.
use Rattle.std.proofs.Common.{List, Some, All, refl}
use Rattle.vital_lex.specs.declared.token_list.Token.{Token}
use Rattle.vital_names.specs.Declarations.{Declared, Generic, Port, declared_in, identifier_of}
use Rattle.vital_nodes.specs.declared.stmt.Process.{Process}
use Rattle.vital_nodes.specs.declared.unit.Arch.{Arch}
use Rattle.vital_nodes.specs.declared.unit.Entity.{Entity}
use Rattle.vital_nodes.specs.declared.unit.Unit.{Unit as Unit'}
use Rattle.vital_nodes.specs.declared.unit.Unit.TheVariants as u
use Rattle.vital_shapes.proofs.Along.{Source}
use Rattle.vital_as_read.specs.AsRead.{IsArchAsRead, IsEntityAsRead, IsProcessAsRead, IsUnitAsRead}
use Rattle.vital_as_read.proofs.Concurrent.{ProcessAlong}
use Rattle.vital_as_read.proofs.Each.{AreSound, Each, each_as, each_before, each_in_order, each_joined, each_named, each_passed, sound_left}
use Rattle.vital_as_read.proofs.Units.{ArchAlong, EntityAlong, UnitAlong}

entity_as_read : {o : Source} {ts : List Token} (e : Entity) → EntityAlong o ts e → AreSound o ts → IsEntityAsRead e
entity_as_read {o} e x sound =
    let each = each_joined (each_as {named = identifier_of} (λ i. Generic i) (λ i. refl) x.generics.each) (each_as {named = identifier_of} (λ i. Port i) (λ i. refl) x.ports.each) in
    record { named = each_named each sound; in_order = each_in_order each sound; generics_together = x.generics.together; ports_together = x.ports.together }

process_as_read : {o : Source} {ts us : List Token} (outer : List Declared) (p : Process) → Each o identifier_of ts outer us → ProcessAlong o us p → AreSound o ts → IsProcessAsRead outer p
process_as_read outer p before x sound =
    let left = sound_left (each_passed before) sound in
    record {
      named = each_named x.each left;
      in_order = each_in_order x.each left;
      behind = each_before before x.each sound;
      together = x.together;
      names_in_order = each_in_order x.names (sound_left (each_passed x.each) left);
      names_behind = each_before (each_joined before x.each) x.names sound;
    }

arch_as_read : {o : Source} {ts : List Token} (a : Arch) → ArchAlong o ts a → AreSound o ts → IsArchAsRead (Some a)
arch_as_read a x sound = record {
  named = each_named x.declarations.each sound;
  in_order = each_in_order x.declarations.each sound;
  all_in_order = each_in_order (each_joined x.declarations.each x.declared) sound;
  together = x.declarations.together;
  processes = λ k p inside. process_as_read (declared_in a.declarations) _ x.declarations.each (x.processes k p inside) sound;
}

unit_as_read : (o : Source) (ts : List Token) (x : Unit') → UnitAlong o ts x → AreSound o ts → IsUnitAsRead x
unit_as_read o ts (u.Entity e) x sound = entity_as_read e x sound
unit_as_read o ts (u.Arch a) x sound = arch_as_read a x sound
unit_as_read o ts (u.Pack p) x sound = x
unit_as_read o ts (u.Config c) x sound = tt

pub units_as_read : (o : Source) (ts : List Token) (units : List Unit') → All (UnitAlong o ts) units → AreSound o ts → All IsUnitAsRead units
units_as_read o ts units all sound = λ k x inside. unit_as_read o ts _ (all k x inside) sound
