-- What is written in the names of timing generics: the words of prefixes and edges, and which ports and edges each prefix has.
use Rattle.std.specs.Prelude.{ℕ, Bool, true, false, List, [], ◌∷◌, Option, Some, None, codes}
use Rattle.vital_nodes.specs.declared.decl.Mode.{Mode}
use Rattle.vital_nodes.specs.declared.decl.Mode.TheVariants.{In, Out, Inout, Buffer, Linkage}
use Rattle.vital_level0.specs.declared.parts.Edge.{Edge}
use Rattle.vital_level0.specs.declared.parts.Edge.TheVariants.{Absent, Noedge, Posedge, Negedge}
use Rattle.vital_level0.specs.declared.parts.Prefix.{Prefix}
use Rattle.vital_level0.specs.declared.parts.Prefix.TheVariants.{Tpd, Tipd, Tsetup, Thold, Trecovery, Tremoval, Tperiod, Tpw, Tisd, Ticd}

abbrev pub prefixes : List Prefix
prefixes = Tpd ∷ Tipd ∷ Tsetup ∷ Thold ∷ Trecovery ∷ Tremoval ∷ Tperiod ∷ Tpw ∷ Tisd ∷ Ticd ∷ []

abbrev pub word_of : Prefix → List ℕ
word_of Tpd = codes "tpd"
word_of Tipd = codes "tipd"
word_of Tsetup = codes "tsetup"
word_of Thold = codes "thold"
word_of Trecovery = codes "trecovery"
word_of Tremoval = codes "tremoval"
word_of Tperiod = codes "tperiod"
word_of Tpw = codes "tpw"
word_of Tisd = codes "tisd"
word_of Ticd = codes "ticd"

-- The byte that parts are joined by.
abbrev pub underscore : ℕ
underscore = 95

-- An edge after its underscore, where one is written.
abbrev pub edge_text : Edge → List ℕ
edge_text Absent = []
edge_text Noedge = codes "_noedge"
edge_text Posedge = codes "_posedge"
edge_text Negedge = codes "_negedge"

-- A port of this mode can be read, or driven.
abbrev pub is_in : Mode → Bool
is_in In = true
is_in Out = false
is_in Inout = true
is_in Buffer = false
is_in Linkage = false

abbrev pub is_out : Mode → Bool
is_out In = false
is_out Out = true
is_out Inout = true
is_out Buffer = true
is_out Linkage = false

-- The first port of each prefix is an in port. What the second one is, where there is one.
abbrev pub second_port : Prefix → Option (Mode → Bool)
second_port Tpd = Some is_out
second_port Tipd = None
second_port Tsetup = Some is_in
second_port Thold = Some is_in
second_port Trecovery = Some is_in
second_port Tremoval = Some is_in
second_port Tperiod = None
second_port Tpw = None
second_port Tisd = Some is_in
second_port Ticd = None

-- Whether a condition's name may follow the ports.
abbrev pub may_have_condition : Prefix → Bool
may_have_condition Tpd = true
may_have_condition Tipd = false
may_have_condition Tsetup = true
may_have_condition Thold = true
may_have_condition Trecovery = true
may_have_condition Tremoval = true
may_have_condition Tperiod = true
may_have_condition Tpw = true
may_have_condition Tisd = false
may_have_condition Ticd = false

-- How many edges there may be at most.
abbrev pub most_edges : Prefix → ℕ
most_edges Tpd = 1
most_edges Tipd = 0
most_edges Tsetup = 2
most_edges Thold = 2
most_edges Trecovery = 2
most_edges Tremoval = 2
most_edges Tperiod = 1
most_edges Tpw = 1
most_edges Tisd = 0
most_edges Ticd = 0
