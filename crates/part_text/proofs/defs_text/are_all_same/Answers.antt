-- Lists are the same where their elements are.
use Rattle.std.proofs.Common.{◌≡◌, true, ap, rules}
use Rattle.std.specs.Bool.{Decides}
use Rattle.std.proofs.lemmas.Bool.{and_from, and_parts}
use Rattle.std.proofs.lemmas.Slice.Eq.{slice_eq-Decides}
use denote.Enum.Bare.{same_true, sameb, true_same}
use Rattle.stream_base.specs.declared.def.Def.{Def}
use Rattle.stream_base.specs.declared.kind.Kind.{Kind}
use Rattle.stream_base.specs.contracts.func.Func.{the_type}
use Rattle.stream_base.specs.contracts.kind.KindPartialEq.TheImpl as kinds
use Rattle.stream_base.specs.contracts.def.DefPartialEq.TheImpl as defs
use Rattle.part_text.proofs.defs_text.are_all_same.Goals as goal

kind_decides : (a b : Kind) → Decides ((kinds.ghosts).eq a b) (a ≡ b)
kind_decides a b = search rules

same_def : (a b : Def) → a.kind ≡ b.kind → a.func ≡ b.func → a ≡ b
same_def a b k f = λ i. record { kind = k i; func = f i }

def_decides : (a b : Def) → Decides ((defs.ghosts).eq a b) (a ≡ b)
def_decides a b = (alike, tested)
  where
    alike : (defs.ghosts).eq a b ≡ true → a ≡ b
    alike t =
        let p = and_parts ((kinds.ghosts).eq a.kind b.kind) (sameb the_type a.func b.func) t in
        same_def a b ((kind_decides a.kind b.kind).0 p.0) (same_true the_type (search rules) a.func b.func p.1)

    tested : a ≡ b → (defs.ghosts).eq a b ≡ true
    tested e =
        and_from ((kinds.ghosts).eq a.kind b.kind) (sameb the_type a.func b.func)
        ((kind_decides a.kind b.kind).1 (ap (λ (w : Def). w.kind) e)) (true_same the_type a.func b.func (ap (λ (w : Def). w.func) e))

pub returns : goal.returns
returns c = slice_eq-Decides def_decides c.args.left.now c.args.right.now c.eq.result c.eq.ensures
