-- All parts have room, so both halves do.
use Rattle.std.proofs.Common.{◌≡◌, ◌∙◌, ◌<◌, ◌++◌, ◌≤◌, true, cond, ap, arith, drop, length, length-drop, length-take, subst, sym, take}
use Rattle.std.specs.List.{flat_map}
use Rattle.tuple_chunks.specs.Parts.{IsReady}
use Rattle.tuple_chunks.proofs.RowFacts.{back_number, back_parts, back_row, divided, front_parts, front_row, is_ready}
use Rattle.tuple_chunks.proofs.PartFacts.{first_some}
use Rattle.tuple_chunks.proofs.row.RowPart.settle.Goals as goal

pub numbers-number-requires : goal.numbers-number-requires
numbers-number-requires g c =
    let f = g.P.Part.tuples in
    let parts = c.self.inside.parts.items in
    let is = c.deref.ensures.value ∙ c.in_ok-back.ensures.tail in
    omega (arith, ap (λ l. length (flat_map f l)) is, back_number f g.P.Part.spare parts c.cut-at.result, c.self.invariant.counted, c.self.invariant.fits)

pub overflow_sub-self : goal.overflow_sub-self
overflow_sub-self g c =
    let f = g.P.Part.tuples in
    let parts = c.self.inside.parts.items in
    let is = c.deref.ensures.value ∙ c.in_ok-back.ensures.tail in
    omega (arith, c.numbers-number.ensures, ap (λ l. length (flat_map f l)) is, back_number f g.P.Part.spare parts c.cut-at.result, c.self.invariant.counted)

pub invariant_of-result : goal.invariant_of-result
invariant_of-result g c =
    let f = g.P.Part.tuples in
    let parts = c.self.inside.parts.items in
    let number = c.self.inside.number in
    let ready : c.self.inside.ready ≡ true = is_ready c.self.inside.ready c.reserve.new.self.spare (ap (λ h. h.spare) c.self.view_is) c.in_ok-reserve.ensures.room in
    let all : IsReady g.P.Part.spare parts number = c.self.invariant.roomy ready in
    let within : c.cut-at.result < length parts = omega (arith, c.cut-at.ensures.within, c.len-2.ensures) in
    back_row f g.P.Part.spare parts c.in_ok-back.back.items c.cut-at.result c.numbers-number.result number true c.in_ok-back.ensures.tail within c.self.invariant.holds all c.self.invariant.counted
    (c.numbers-number.ensures ∙ ap (λ l. length (flat_map f l)) (c.deref.ensures.value ∙ c.in_ok-back.ensures.tail))

pub invariant_of-self-2 : goal.invariant_of-self-2
invariant_of-self-2 g c =
    let f = g.P.Part.tuples in
    let parts = c.self.inside.parts.items in
    let number = c.self.inside.number in
    let ready : c.self.inside.ready ≡ true = is_ready c.self.inside.ready c.reserve.new.self.spare (ap (λ h. h.spare) c.self.view_is) c.in_ok-reserve.ensures.room in
    let all : IsReady g.P.Part.spare parts number = c.self.invariant.roomy ready in
    let within : c.cut-at.result < length parts = omega (arith, c.cut-at.ensures.within, c.len-2.ensures) in
    front_row f g.P.Part.spare parts c.split_off.new.self.items c.cut-at.result c.numbers-number.result number c.self.inside.ready c.in_ok-back.ensures.items c.cut-at.ensures.some within c.self.invariant.holds all c.self.invariant.counted
    (c.numbers-number.ensures ∙ ap (λ l. length (flat_map f l)) (c.deref.ensures.value ∙ c.in_ok-back.ensures.tail))

pub returns : goal.returns
returns g c =
    let f = g.P.Part.tuples in
    let s = g.P.Part.spare in
    let parts = c.self.inside.parts.items in
    let at = c.cut-at.result in
    let ready : c.self.inside.ready ≡ true = is_ready c.self.inside.ready c.reserve.new.self.spare (ap (λ h. h.spare) c.self.view_is) c.in_ok-reserve.ensures.room in
    let within : at < length parts = omega (arith, c.cut-at.ensures.within, c.len-2.ensures) in
    let items = c.in_ok-back.ensures.items in
    let tail = c.in_ok-back.ensures.tail in
    let front : 0 < length (flat_map f (take at parts)) = first_some f (take at parts) (front_parts f s parts at c.self.invariant.holds) (omega (arith, length-take at parts, c.cut-at.ensures.some)) in
    let back : 0 < length (flat_map f (drop at parts)) = first_some f (drop at parts) (back_parts f s parts at c.self.invariant.holds) (omega (arith, length-drop at parts)) in
    record {
      whole = sym c.reserve.ensures.kept ∙ sym (ap (λ h. h.tuples) c.self.view_is) ∙ divided f s parts at ∙ (λ i. flat_map f (sym items i) ++ flat_map f (sym tail i));
      back = (subst (λ l. 0 < length (flat_map f l)) (sym tail) back, omega arith);
      room = subst (λ b. 1 ≤ cond b 1 0) (sym ready) (omega arith);
      some = subst (λ l. 0 < length (flat_map f l)) (sym items) front;
      kept = tt;
    }
