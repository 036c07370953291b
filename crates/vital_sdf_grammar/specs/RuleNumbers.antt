-- The numbers of the rules of the grammar.
use Rattle.vital_ll.specs.declared.grammar.Sym.{Sym}
use Rattle.vital_ll.specs.declared.grammar.Sym.TheVariants.{Token, Rule}
use Rattle.vital_sdf_lexemes.specs.Kinds.{number}
use Rattle.vital_sdf_lexemes.specs.declared.kinds.Kind.{Kind}

-- a token of this kind
abbrev pub word : Kind → Sym
word k = Token (number k)

abbrev pub sdf : Sym
sdf = Rule 0

abbrev pub blocks : Sym
blocks = Rule 1

abbrev pub block : Sym
block = Rule 2

abbrev pub head : Sym
head = Rule 3

abbrev pub scale : Sym
scale = Rule 4

abbrev pub optional_word : Sym
optional_word = Rule 5

abbrev pub any : Sym
any = Rule 6

abbrev pub atom : Sym
atom = Rule 7

abbrev pub parts : Sym
parts = Rule 8

abbrev pub part : Sym
part = Rule 9

abbrev pub delays : Sym
delays = Rule 10

abbrev pub delay : Sym
delay = Rule 11

abbrev pub dels : Sym
dels = Rule 12

abbrev pub del : Sym
del = Rule 13

abbrev pub optional_string : Sym
optional_string = Rule 14

abbrev pub io : Sym
io = Rule 15

abbrev pub port : Sym
port = Rule 16

abbrev pub edge : Sym
edge = Rule 17

abbrev pub cond : Sym
cond = Rule 18

abbrev pub cond_rest : Sym
cond_rest = Rule 19

abbrev pub inner : Sym
inner = Rule 20

abbrev pub vals : Sym
vals = Rule 21

abbrev pub value : Sym
value = Rule 22

abbrev pub val : Sym
val = Rule 23

abbrev pub optional_number : Sym
optional_number = Rule 24

abbrev pub val_rest : Sym
val_rest = Rule 25

abbrev pub chks : Sym
chks = Rule 26

abbrev pub chk : Sym
chk = Rule 27

abbrev pub tp : Sym
tp = Rule 28

abbrev pub tp_rest : Sym
tp_rest = Rule 29

abbrev pub titems : Sym
titems = Rule 30

abbrev pub titem : Sym
titem = Rule 31

abbrev pub titem_rest : Sym
titem_rest = Rule 32

abbrev pub one : Sym
one = Rule 33
