-- What is told are the completions, and the slices of what comes next are held.
use Rattle.std.proofs.Common.{◌≡◌, ◌∙◌, ◌+◌, ◌*◌, ◌≤◌, ◌++◌, ap, arith, length, max, subst, sym}
use Rattle.stream_base.specs.declared.def.Def.{Def}
use Rattle.stream_base.specs.Laws.{completions}
use Rattle.stream_base.specs.Model.Moments.{moment}
use Rattle.slice_lists.specs.Runs.{runs_within}
use Rattle.window_laws.specs.Walk.{due_from, next_start}
use Rattle.agg_store.specs.Stored.{tuples_of}
use Rattle.time_lanes.specs.Held.{HoldsFrom}
use Rattle.time_lanes.specs.Lane.{Knows, MissesNoSlice, Laned, fresh_to}
use Rattle.time_lanes.specs.Moves.{MayMove, completed_starts, slices_between, slices_in_last, slices_until}
use Rattle.time_lanes.specs.Spans.{IsEdge, last_end}
use Rattle.time_lanes.proofs.AdvanceFacts.{begins, between_is, due_is, ends_above, fresh_at_most, goes_to, held_and_taken, in_last_is, knows_at, knows_of, last_at_most, last_is_edge, last_rises, left_at_most, missed_at, move_changes, next_rises, none_missed_at, taken_at_most, taken_is, taken_where_none_missed, until_is}
use Rattle.time_lanes.proofs.HeldFacts.{partials_length}
use Rattle.time_lanes.proofs.ServedFacts.{same_window, span_of_kind}
use Rattle.time_lanes.proofs.lane.Lane.advance.Given as given
use Rattle.time_lanes.proofs.lane.Lane.advance.Goals as goal

pub pull-requires : goal.pull-requires
pull-requires g c =
    let span = c.serve.result.span in
    let d = c.serve.result.def in
    let s = (g.S.AggStore.stored c.args.store.now) in
    let o = c.shed.ensures.ordered in
    let to = ap (λ (l : Laned _). l.to) c.self.view_is ∙ c.refresh.ensures.to in
    let spare = ap (λ (l : Laned _). l.spare) c.self.view_is in
    let room = taken_is d.kind span.length span.slide c.serve.ensures.length c.serve.ensures.slide c.next_start-start.result c.self.inside.held.to c.args.old c.args.new c.args.self.now s.slices c.next_start-start.ensures.start to in
    let rises = next_rises span.length span.slide span.within c.args.old c.args.new c.requires.order in
    let left = left_at_most s.slices o c.tell_due-told.result c.next_start-next.result c.tell_due-told.new.held.to c.shed.new.self.to _ c.last_end.result (omega (arith, rises, c.tell_due-told.ensures.within, c.next_start-start.ensures.start, c.next_start-next.ensures.start)) c.shed.ensures.to c.last_end.ensures.end in
    omega (arith, left, room, spare, c.requires.room d c.serve.ensures.stands, c.refresh.ensures.spare, c.tell_due-told.ensures.room, c.shed.ensures.lets_go.spare)

pub returns-clause-changes : goal.returns-clause-changes
returns-clause-changes g c = λ def gone marks stands may.
    let span = c.serve.result.span in
    let d = c.serve.result.def in
    let s = (g.S.AggStore.stored c.args.store.now) in
    let same : def ≡ d = same_window c.args.defs.now.windows c.args.window def d stands c.serve.ensures.stands in
    let here = subst (λ (e : Def). MayMove g.M.Partial.of_values e.kind c.args.old gone s c.args.self.now) same may in
    let k = knows_at d.kind span.length span.slide c.serve.ensures.length c.serve.ensures.slide c.args.old s c.args.self.now here.knows in
    let to = ap (λ (l : Laned _). l.to) c.self.view_is ∙ c.refresh.ensures.to in
    let partials = ap (λ (l : Laned _). l.partials) c.self.view_is ∙ c.refresh.ensures.partials in
    let held = begins span.length span.slide span.within c.args.old s c.args.self.now c.self.inside.held partials to g.M.Partial.of_values k.held in
    let reached = goes_to span.length span.slide span.within c.args.old s c.args.self.now c.self.inside.held partials to k.reached in
    let out = c.tell_due-told.new.out.items in
    subst (λ (e : Def). out ≡ c.args.out.now.items ++ completions c.args.key.now (moment (gone ++ tuples_of s) marks c.args.old) c.args.new (c.args.window, e)) (sym same)
    (move_changes c.args.window c.args.key.now d c.args.old c.args.new gone (tuples_of s) marks span.length span.slide c.next_start-start.result c.args.out.now.items out c.serve.ensures.timed (span_of_kind d.kind c.serve.ensures.timed c.serve.ensures.within) here.apart c.serve.ensures.length c.serve.ensures.slide c.next_start-start.ensures.start
    (c.tell_due-told.ensures.told (subst (λ n. HoldsFrom g.M.Partial.of_values n s c.self.inside.held) (sym c.next_start-start.ensures.start) held) (omega (arith, reached, last_at_most span.length span.slide span.within c.args.old, ends_above span.length span.slide span.within c.args.old, c.next_start-start.ensures.start))))

-- how far the slices go that are held in the end
ends_at : (g : given.Over) (c : goal.After-pull g) → c.self.inside.held.to ≤ last_end c.serve.result.span.length c.serve.result.span.slide c.args.old → c.pull.new.self.to ≡ last_end c.serve.result.span.length c.serve.result.span.slide c.args.new
ends_at g c h =
    let span = c.serve.result.span in
    let rises = last_rises span.length span.slide span.within c.args.old c.args.new c.requires.order in
    omega (arith, h, rises, c.pull.ensures.to, c.shed.ensures.to, c.tell_due-told.ensures.to, c.last_end.ensures.end)

pub returns-clause-knows : goal.returns-clause-knows
returns-clause-knows g c = λ def stands knows.
    let span = c.serve.result.span in
    let d = c.serve.result.def in
    let s = (g.S.AggStore.stored c.args.store.now) in
    let same : def ≡ d = same_window c.args.defs.now.windows c.args.window def d stands c.serve.ensures.stands in
    let k = knows_at d.kind span.length span.slide c.serve.ensures.length c.serve.ensures.slide c.args.old s c.args.self.now (subst (λ (e : Def). Knows g.M.Partial.of_values e.kind c.args.old s c.args.self.now) same knows) in
    let to = ap (λ (l : Laned _). l.to) c.self.view_is ∙ c.refresh.ensures.to in
    let partials = ap (λ (l : Laned _). l.partials) c.self.view_is ∙ c.refresh.ensures.partials in
    let held = begins span.length span.slide span.within c.args.old s c.args.self.now c.self.inside.held partials to g.M.Partial.of_values k.held in
    let reached = goes_to span.length span.slide span.within c.args.old s c.args.self.now c.self.inside.held partials to k.reached in
    let last : c.pull.new.self.to ≡ last_end span.length span.slide c.args.new = ends_at g c reached in
    let rises = next_rises span.length span.slide span.within c.args.old c.args.new c.requires.order in
    let walked = c.tell_due-told.ensures.held (subst (λ n. HoldsFrom g.M.Partial.of_values n s c.self.inside.held) (sym c.next_start-start.ensures.start) held) in
    let shed = c.shed.ensures.held (omega (arith, rises, c.tell_due-told.ensures.within, c.next_start-start.ensures.start, c.next_start-next.ensures.start)) walked in
    let now : Laned _ = record { partials = c.pull.new.self.partials; to = c.pull.new.self.to; stale = c.self.inside.stale; spare = c.pull.new.self.spare; credit = c.pull.new.self.credit } in
    subst (λ (e : Def). Knows g.M.Partial.of_values e.kind c.args.new s now) (sym same)
    (knows_of d.kind span.length span.slide c.serve.ensures.length c.serve.ensures.slide c.args.new s now
    record {
      reached = omega (arith, last);
      edge = subst (IsEdge span.length span.slide) (sym last) (last_is_edge span.length span.slide span.within c.args.new);
      held = λ f. subst (λ n. HoldsFrom g.M.Partial.of_values n s c.pull.new.self) c.next_start-next.ensures.start (c.pull.ensures.held shed);
    })

pub returns-clause-knows_all : goal.returns-clause-knows_all
returns-clause-knows_all g c = λ def stands.
    let span = c.serve.result.span in
    let d = c.serve.result.def in
    let s = (g.S.AggStore.stored c.args.store.now) in
    let same : def ≡ d = same_window c.args.defs.now.windows c.args.window def d stands c.serve.ensures.stands in
    let now : Laned _ = record { partials = c.pull.new.self.partials; to = c.pull.new.self.to; stale = c.self.inside.stale; spare = c.pull.new.self.spare; credit = c.pull.new.self.credit } in
    subst (λ (e : Def). MissesNoSlice e.kind c.args.new s now) (sym same)
    record {
      fresh = ap (λ (l : Laned _). l.stale) c.self.view_is ∙ c.refresh.ensures.stale;
      none_missed = none_missed_at d.kind span.length span.slide c.serve.ensures.length c.serve.ensures.slide c.args.new s.slices c.pull.new.self.to (omega (arith, c.pull.ensures.to, c.last_end.ensures.end));
    }

-- all steps, by the slices that are taken up and by what is left on credit where the walk begins
steps_of_walk : (g : given.Over) (c : goal.After-pull g)
    → c.pull.new.steps + c.pull.new.self.credit ≤ c.args.steps.now + c.self.inside.held.credit + 10 * length (runs_within (max (next_start c.serve.result.span.length c.serve.result.span.slide c.args.old) c.self.inside.held.to) (last_end c.serve.result.span.length c.serve.result.span.slide c.args.new) (g.S.AggStore.stored c.args.store.now).slices)
    + length (due_from c.serve.result.span.length c.serve.result.span.slide (tuples_of (g.S.AggStore.stored c.args.store.now)) c.next_start-start.result c.args.new)
steps_of_walk g c =
    let span = c.serve.result.span in
    let s = (g.S.AggStore.stored c.args.store.now) in
    let o = c.pull.ensures.holds.slices.ordered in
    let same : length (runs_within (max c.next_start-start.result c.self.inside.held.to) (last_end span.length span.slide c.args.new) s.slices) ≡ length (runs_within (max (next_start span.length span.slide c.args.old) c.self.inside.held.to) (last_end span.length span.slide c.args.new) s.slices) = λ i. length (runs_within (max (c.next_start-start.ensures.start i) c.self.inside.held.to) (last_end span.length span.slide c.args.new) s.slices) in
    let rises = next_rises span.length span.slide span.within c.args.old c.args.new c.requires.order in
    let left = left_at_most s.slices o c.tell_due-told.result c.next_start-next.result c.tell_due-told.new.held.to c.shed.new.self.to _ c.last_end.result (omega (arith, rises, c.tell_due-told.ensures.within, c.next_start-start.ensures.start, c.next_start-next.ensures.start)) c.shed.ensures.to c.last_end.ensures.end in
    omega (arith, left, same, c.tell_due-told.ensures.cost, c.shed.ensures.lets_go.cost, c.pull.ensures.cost)

-- the same by the credit before
all_steps : (g : given.Over) (c : goal.After-pull g)
    → c.pull.new.steps + c.pull.new.self.credit ≤ c.args.steps.now + c.args.self.now.credit + 10 * length (runs_within (max (next_start c.serve.result.span.length c.serve.result.span.slide c.args.old) (fresh_to c.args.self.now)) (last_end c.serve.result.span.length c.serve.result.span.slide c.args.new) (g.S.AggStore.stored c.args.store.now).slices)
    + length (due_from c.serve.result.span.length c.serve.result.span.slide (tuples_of (g.S.AggStore.stored c.args.store.now)) c.next_start-start.result c.args.new)
all_steps g c =
    let span = c.serve.result.span in
    let s = (g.S.AggStore.stored c.args.store.now) in
    let to = ap (λ (l : Laned _). l.to) c.self.view_is ∙ c.refresh.ensures.to in
    let credit = ap (λ (l : Laned _). l.credit) c.self.view_is in
    let same : length (runs_within (max (next_start span.length span.slide c.args.old) c.self.inside.held.to) (last_end span.length span.slide c.args.new) s.slices) ≡ length (runs_within (max (next_start span.length span.slide c.args.old) (fresh_to c.args.self.now)) (last_end span.length span.slide c.args.new) s.slices) = λ i. length (runs_within (max (next_start span.length span.slide c.args.old) (to i)) (last_end span.length span.slide c.args.new) s.slices) in
    omega (arith, same, credit, c.refresh.ensures.credit, steps_of_walk g c)

-- what is left on credit where the walk begins has been paid for by the slices that are held
pub returns-clause-work : goal.returns-clause-work
returns-clause-work g c = λ def stands knows.
    let span = c.serve.result.span in
    let d = c.serve.result.def in
    let s = (g.S.AggStore.stored c.args.store.now) in
    let same : def ≡ d = same_window c.args.defs.now.windows c.args.window def d stands c.serve.ensures.stands in
    let k = knows_at d.kind span.length span.slide c.serve.ensures.length c.serve.ensures.slide c.args.old s c.args.self.now (subst (λ (e : Def). Knows g.M.Partial.of_values e.kind c.args.old s c.args.self.now) same knows) in
    let to = ap (λ (l : Laned _). l.to) c.self.view_is ∙ c.refresh.ensures.to in
    let partials = ap (λ (l : Laned _). l.partials) c.self.view_is ∙ c.refresh.ensures.partials in
    let credit = ap (λ (l : Laned _). l.credit) c.self.view_is in
    let held : HoldsFrom g.M.Partial.of_values (next_start span.length span.slide c.args.old) s c.self.inside.held = begins span.length span.slide span.within c.args.old s c.args.self.now c.self.inside.held partials to g.M.Partial.of_values k.held in
    let number = ap length held ∙ partials_length g.M.Partial.of_values (runs_within (next_start span.length span.slide c.args.old) c.self.inside.held.to s.slices) in
    let reached = goes_to span.length span.slide span.within c.args.old s c.args.self.now c.self.inside.held partials to k.reached in
    let taken = held_and_taken span.length span.slide span.within c.args.old c.args.new c.requires.order s.slices c.pull.ensures.holds.slices.ordered c.self.inside.held.to reached in
    let until = until_is d.kind span.length span.slide c.serve.ensures.length c.serve.ensures.slide c.args.old c.args.new s.slices in
    let due = due_is d.kind span.length span.slide c.serve.ensures.length c.serve.ensures.slide c.next_start-start.result c.args.old c.args.new (tuples_of s) c.next_start-start.ensures.start in
    let left = ap (λ (l : Laned _). length l.partials) c.self.view_is in
    subst (λ (e : Def). c.pull.new.steps ≤ c.args.steps.now + 10 * length (slices_until e.kind s c.args.old c.args.new) + length (completed_starts e.kind (tuples_of s) c.args.old c.args.new)) (sym same)
    (omega (arith, steps_of_walk g c, c.refresh.ensures.little, credit, left, number, taken, until, due))

pub returns-clause-cost_touched : goal.returns-clause-cost_touched
returns-clause-cost_touched g c = λ def stands knows.
    let span = c.serve.result.span in
    let d = c.serve.result.def in
    let s = (g.S.AggStore.stored c.args.store.now) in
    let same : def ≡ d = same_window c.args.defs.now.windows c.args.window def d stands c.serve.ensures.stands in
    let k = knows_at d.kind span.length span.slide c.serve.ensures.length c.serve.ensures.slide c.args.old s c.args.self.now (subst (λ (e : Def). Knows g.M.Partial.of_values e.kind c.args.old s c.args.self.now) same knows) in
    let taken = taken_at_most span.length span.slide span.within c.args.old c.args.new c.requires.order s.slices c.pull.ensures.holds.slices.ordered (fresh_to c.args.self.now) (fresh_at_most c.args.self.now (last_end span.length span.slide c.args.old) k.reached) in
    let between = between_is d.kind span.length span.slide c.serve.ensures.length c.serve.ensures.slide c.args.old c.args.new s.slices in
    let last = in_last_is d.kind span.length span.slide c.serve.ensures.length c.serve.ensures.slide c.args.old s.slices in
    let due = due_is d.kind span.length span.slide c.serve.ensures.length c.serve.ensures.slide c.next_start-start.result c.args.old c.args.new (tuples_of s) c.next_start-start.ensures.start in
    subst (λ (e : Def). c.pull.new.steps + c.pull.new.self.credit ≤ c.args.steps.now + c.args.self.now.credit + 10 * (length (slices_between e.kind s c.args.old c.args.new) + length (slices_in_last e.kind s c.args.old)) + length (completed_starts e.kind (tuples_of s) c.args.old c.args.new)) (sym same)
    (omega (arith, all_steps g c, taken, between, last, due))

pub returns-clause-cost : goal.returns-clause-cost
returns-clause-cost g c = λ def stands knows all.
    let span = c.serve.result.span in
    let d = c.serve.result.def in
    let s = (g.S.AggStore.stored c.args.store.now) in
    let same : def ≡ d = same_window c.args.defs.now.windows c.args.window def d stands c.serve.ensures.stands in
    let k = knows_at d.kind span.length span.slide c.serve.ensures.length c.serve.ensures.slide c.args.old s c.args.self.now (subst (λ (e : Def). Knows g.M.Partial.of_values e.kind c.args.old s c.args.self.now) same knows) in
    let none = missed_at d.kind span.length span.slide c.serve.ensures.length c.serve.ensures.slide c.args.old s c.args.self.now (subst (λ (e : Def). MissesNoSlice e.kind c.args.old s c.args.self.now) same all) in
    let taken = taken_where_none_missed span.length span.slide span.within c.args.old c.args.new c.requires.order s.slices c.pull.ensures.holds.slices.ordered (fresh_to c.args.self.now) (fresh_at_most c.args.self.now (last_end span.length span.slide c.args.old) k.reached) none in
    let between = between_is d.kind span.length span.slide c.serve.ensures.length c.serve.ensures.slide c.args.old c.args.new s.slices in
    let due = due_is d.kind span.length span.slide c.serve.ensures.length c.serve.ensures.slide c.next_start-start.result c.args.old c.args.new (tuples_of s) c.next_start-start.ensures.start in
    subst (λ (e : Def). c.pull.new.steps + c.pull.new.self.credit ≤ c.args.steps.now + c.args.self.now.credit + 10 * length (slices_between e.kind s c.args.old c.args.new) + length (completed_starts e.kind (tuples_of s) c.args.old c.args.new)) (sym same)
    (omega (arith, all_steps g c, taken, between, due))
