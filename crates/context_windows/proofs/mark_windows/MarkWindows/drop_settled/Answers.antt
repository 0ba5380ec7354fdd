-- The intervals that end later are left, and enough of the marks.
use Rattle.std.proofs.Common.{◌≡◌, ◌∙◌, ap, subst, sym, rules}
use Rattle.std.specs.Prelude.{max, nat_lt}
use Rattle.std.specs.List.{filter}
use Rattle.std.proofs.lemmas.Fn.{filter_same}
use Rattle.slice_lists.specs.Touched.{marks_left}
use Rattle.window_spans.specs.declared.span.Span.{Span}
use Rattle.context_windows.specs.Marked.{AreIntervals, Marked}
use Rattle.context_windows.proofs.Intervals.{intervals_left}
use Rattle.context_windows.proofs.Stretching.{marks_later}
use Rattle.context_windows.proofs.mark_windows.MarkWindows.drop_settled.Goals as goal

pub invariant_of-self : goal.invariant_of-self
invariant_of-self c =
    let time = c.args.time in
    let spans = c.self.inside.spans.items in
    let marks = c.self.inside.marks.items in
    let left : c.retain.new.self.items ≡ filter (λ (s : Span). nat_lt time s.high) spans = filter_same _ (λ (s : Span). nat_lt time s.high) _ (λ x b f' k. search rules) _ _ c.retain.ensures.filtered in
    subst (λ l. AreIntervals l c.leave_marks.new.marks.items) (sym left)
    (subst (AreIntervals (filter (λ (s : Span). nat_lt time s.high) spans)) (sym c.leave_marks.ensures.left) (intervals_left time spans marks c.self.invariant))

pub returns-clause-kept : goal.returns-clause-kept
returns-clause-kept c =
    let time = c.args.time in
    let spans = c.self.inside.spans.items in
    let left : c.retain.new.self.items ≡ filter (λ (s : Span). nat_lt time s.high) spans = filter_same _ (λ (s : Span). nat_lt time s.high) _ (λ x b f' k. search rules) _ _ c.retain.ensures.filtered in
    record {
      spans = left ∙ ap (λ (v : Marked). filter (λ (s : Span). nat_lt time s.high) v.spans) c.self.view_is;
      marks = c.leave_marks.ensures.left ∙ ap (λ (v : Marked). marks_left time v.marks) c.self.view_is;
      stood = search rules;
      forgotten = search rules;
      spare = search rules;
    }

pub returns-clause-follows : goal.returns-clause-follows
returns-clause-follows c = λ marks kept f.
    let at : c.max-self-inside.result ≡ max c.args.self.now.forgotten c.args.time = search rules in
    marks_later c.args.time marks kept c.args.self.now _ f (returns-clause-kept c).spans (returns-clause-kept c).marks at
