-- The numbers of the rules of the grammar.
use Rattle.vital_ll.specs.declared.grammar.Sym.{Sym}
use Rattle.vital_ll.specs.declared.grammar.Sym.TheVariants.{Token, Rule}
use Rattle.vital_vhdl_lexemes.specs.Kinds.{number}
use Rattle.vital_vhdl_lexemes.specs.declared.kinds.Kind.{Kind}

-- a token of this kind
abbrev pub word : Kind → Sym
word k = Token (number k)

abbrev pub file : Sym
file = Rule 0

abbrev pub more_ids : Sym
more_ids = Rule 1

abbrev pub more_names : Sym
more_names = Rule 2

abbrev pub optional_id : Sym
optional_id = Rule 3

abbrev pub entity : Sym
entity = Rule 4

abbrev pub entity_statements : Sym
entity_statements = Rule 5

abbrev pub entity_word : Sym
entity_word = Rule 6

abbrev pub generics : Sym
generics = Rule 7

abbrev pub ports : Sym
ports = Rule 8

abbrev pub more_ifaces : Sym
more_ifaces = Rule 9

abbrev pub iface : Sym
iface = Rule 10

abbrev pub iface_class : Sym
iface_class = Rule 11

abbrev pub mode : Sym
mode = Rule 12

abbrev pub bus : Sym
bus = Rule 13

abbrev pub default : Sym
default = Rule 14

abbrev pub sub : Sym
sub = Rule 15

abbrev pub range : Sym
range = Rule 16

abbrev pub dir : Sym
dir = Rule 17

abbrev pub arch : Sym
arch = Rule 18

abbrev pub arch_word : Sym
arch_word = Rule 19

abbrev pub pack : Sym
pack = Rule 20

abbrev pub pack_word : Sym
pack_word = Rule 21

abbrev pub config : Sym
config = Rule 22

abbrev pub config_word : Sym
config_word = Rule 23

abbrev pub decls : Sym
decls = Rule 24

abbrev pub decl : Sym
decl = Rule 25

abbrev pub attribute_rest : Sym
attribute_rest = Rule 26

abbrev pub designator : Sym
designator = Rule 27

abbrev pub class : Sym
class = Rule 28

abbrev pub alias_sub : Sym
alias_sub = Rule 29

abbrev pub optional_is : Sym
optional_is = Rule 30

abbrev pub concs : Sym
concs = Rule 31

abbrev pub conc : Sym
conc = Rule 32

abbrev pub conc_rest : Sym
conc_rest = Rule 33

abbrev pub conc_end : Sym
conc_end = Rule 34

abbrev pub delay : Sym
delay = Rule 35

abbrev pub labelled : Sym
labelled = Rule 36

abbrev pub maps : Sym
maps = Rule 37

abbrev pub generic_map : Sym
generic_map = Rule 38

abbrev pub port_map : Sym
port_map = Rule 39

abbrev pub process : Sym
process = Rule 40

abbrev pub sensitivity : Sym
sensitivity = Rule 41

abbrev pub seqs : Sym
seqs = Rule 42

abbrev pub seq : Sym
seq = Rule 43

abbrev pub seq_end : Sym
seq_end = Rule 44

abbrev pub elsifs : Sym
elsifs = Rule 45

abbrev pub else_part : Sym
else_part = Rule 46

abbrev pub name : Sym
name = Rule 47

abbrev pub suffixes : Sym
suffixes = Rule 48

abbrev pub selected : Sym
selected = Rule 49

abbrev pub ticked : Sym
ticked = Rule 50

abbrev pub items : Sym
items = Rule 51

abbrev pub more_items : Sym
more_items = Rule 52

abbrev pub item : Sym
item = Rule 53

abbrev pub item_range : Sym
item_range = Rule 54

abbrev pub item_actual : Sym
item_actual = Rule 55

abbrev pub actual : Sym
actual = Rule 56

abbrev pub expr : Sym
expr = Rule 57

abbrev pub expr_rest : Sym
expr_rest = Rule 58

abbrev pub more_ands : Sym
more_ands = Rule 59

abbrev pub more_ors : Sym
more_ors = Rule 60

abbrev pub more_xors : Sym
more_xors = Rule 61

abbrev pub more_xnors : Sym
more_xnors = Rule 62

abbrev pub rel : Sym
rel = Rule 63

abbrev pub rel_rest : Sym
rel_rest = Rule 64

abbrev pub sum : Sym
sum = Rule 65

abbrev pub sign : Sym
sign = Rule 66

abbrev pub more_terms : Sym
more_terms = Rule 67

abbrev pub term : Sym
term = Rule 68

abbrev pub more_factors : Sym
more_factors = Rule 69

abbrev pub factor : Sym
factor = Rule 70

abbrev pub prim : Sym
prim = Rule 71

abbrev pub id : Sym
id = Rule 72
