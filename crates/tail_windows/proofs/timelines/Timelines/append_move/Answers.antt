-- Each turn appends what one key brings.
use Rattle.std.proofs.Common.{◌≡◌, ◌∙◌, ◌++◌, ◌∷◌, ℕ, List, ap, append_assoc, sym}
use Rattle.std.specs.List.{flat_map}
use Rattle.std.specs.Map.Iter.{deref}
use Rattle.std.proofs.lemmas.Map.Iter.{rest_more}
use Rattle.tail_windows.specs.Following.{list_of}
use Rattle.tail_windows.specs.Walks.{moved_changes}
use Rattle.tail_windows.specs.declared.change.TailChange.{TailChange}
use Rattle.tail_windows.proofs.Walking.{both_appended}
use Rattle.tail_windows.proofs.timelines.Timelines.append_move.Goals as goal

pub loop-key-preserved : goal.loop-key-preserved
loop-key-preserved g c =
    let def = c.args.def.now in
    let out = c.loop-key.out.items in
    let brings = λ (k : List ℕ). moved_changes def k c.args.old c.args.new (list_of c.args.self.now k) in
    let left : c.loop-key.key-iterator ≡ c.in-Some.key.now ∷ c.next.new.self =
    rest_more deref c.loop-key.key-iterator c.next.new.self c.next.result c.in-Some.key c.in-Some.is c.next.ensures.steps in (
      ap (λ (l : List TailChange). l ++ flat_map brings c.next.new.self) c.in_ok-append_key.ensures.changes
          ∙ append_assoc out (brings c.in-Some.key.now) (flat_map brings c.next.new.self)
          ∙ ap (λ l. out ++ flat_map brings l) (sym left)
          ∙ c.loop-key.invariant.0,
      both_appended _ _ _ _ _ _ _ c.loop-key.invariant.1 c.append_key.ensures.appended,
    )

pub returns-in_err-append_key-clause-appended : goal.returns-in_err-append_key-clause-appended
returns-in_err-append_key-clause-appended g c = both_appended _ _ _ _ _ _ _ c.loop-key.invariant.1 c.append_key.ensures.appended
