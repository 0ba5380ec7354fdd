-- Monoids made of monoids.
use Rattle.std.proofs.Common.{◌≡◌, ◌∙◌, sym, ap, subst}
use Rattle.agg_laws.specs.Laws.{MonoidLaws}

-- a struct that wraps what a function keeps obeys the laws that this obeys
pub carried : {S A : Type 0} {IsValue : A → Type 0} {empty : A} {op : A → A → A} (wrap : A → S) (unwrap : S → A) → MonoidLaws IsValue empty op → ((a : A) → unwrap (wrap a) ≡ a) → ((s : S) → wrap (unwrap s) ≡ s) → MonoidLaws (λ s. IsValue (unwrap s)) (wrap empty) (λ x y. wrap (op (unwrap x) (unwrap y)))
carried {IsValue = IsValue} {op = op} wrap unwrap laws there back = record {
  unit_is_value = subst IsValue (sym (there _)) laws.unit_is_value;
  closed = λ x y hx hy. subst IsValue (sym (there _)) (laws.closed (unwrap x) (unwrap y) hx hy);
  left_unit = λ x h. ap (λ a. wrap (op a (unwrap x))) (there _) ∙ ap wrap (laws.left_unit (unwrap x) h) ∙ back x;
  right_unit = λ x h. ap (λ a. wrap (op (unwrap x) a)) (there _) ∙ ap wrap (laws.right_unit (unwrap x) h) ∙ back x;
  assoc = λ x y z hx hy hz. ap (λ a. wrap (op a (unwrap z))) (there _) ∙ ap wrap (laws.assoc (unwrap x) (unwrap y) (unwrap z) hx hy hz) ∙ sym (ap (λ a. wrap (op (unwrap x) a)) (there _));
}

-- two aggregates side by side obey the laws that each of them obeys
pub paired : {A B : Type 0} {IsLeft : A → Type 0} {IsRight : B → Type 0} {left : A} {right : B} {opl : A → A → A} {opr : B → B → B} → MonoidLaws IsLeft left opl → MonoidLaws IsRight right opr → MonoidLaws {M = A × B} (λ p. IsLeft p.0 × IsRight p.1) (left, right) (λ x y. (opl x.0 y.0, opr x.1 y.1))
paired l r = record {
  unit_is_value = (l.unit_is_value, r.unit_is_value);
  closed = λ x y hx hy. (l.closed x.0 y.0 hx.0 hy.0, r.closed x.1 y.1 hx.1 hy.1);
  left_unit = λ x h i. (l.left_unit x.0 h.0 i, r.left_unit x.1 h.1 i);
  right_unit = λ x h i. (l.right_unit x.0 h.0 i, r.right_unit x.1 h.1 i);
  assoc = λ x y z hx hy hz i. (l.assoc x.0 y.0 z.0 hx.0 hy.0 hz.0 i, r.assoc x.1 y.1 z.1 hx.1 hy.1 hz.1 i);
}
