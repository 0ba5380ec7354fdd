-- The feed gives one entry more, or nothing more, or a fault.
use Rattle.std.proofs.Common.{◌≡◌, ◌∙◌, ◌++◌, ◌∷◌, [], List, Option, Some, None, Ok, ap, sym, subst, refl, arith}
use Rattle.std.proofs.lemmas.Grind.{common_steps}
use Rattle.stream_base.specs.declared.entry.Entry.{Entry}
use Rattle.run_inputs.proofs.Draining.{IsDraining, drain_more}
use Rattle.run_inputs.proofs.EntryFacts.{AreGivenBy, gave_all, gives_more, no_entries}
use Rattle.run_inputs.proofs.reading.drain.Goals as goal

pub loop-all-init : goal.loop-all-init
loop-all-init g c = record {
  draining = record {
    same = record { source = refl; origin = refl };
    unanswered = c.requires.unanswered;
    gave = c.requires.blank ∙ sym c.new-all.ensures.items;
    quiet = refl;
  };
  given = no_entries (g.F.Feed.state c.args.feed.now).source (g.F.Feed.state c.args.feed.now).ended c.new-all.result.items c.new-all.ensures.items c.requires.running;
}

pub loop-all-preserved : goal.loop-all-preserved
loop-all-preserved g c =
    let f = g.F.Feed in
    let start = f.state c.args.feed.now in
    let old = f.state c.loop-all.feed in
    let new = f.state c.next.new.self in
    let first = f.faults c.args.feed.now in
    let before = f.faults c.loop-all.feed in
    let after = f.faults c.next.new.self in
    let given = c.loop-all.all.items in
    let inv = c.loop-all.invariant in
    let entry = c.in-Some.entry in
    let more : c.push.new.self.items ≡ given ++ entry ∷ [] = grind (arith, common_steps) in
    let is : c.next.result ≡ Ok (Some entry) = c.in_ok-entry.was ∙ ap Ok c.in-Some.is in
    record {
      draining = subst (λ (es : List Entry). IsDraining start new es first after) (sym more)
          (drain_more start old new given first before after c.next.result c.next.ensures.gives inv.draining entry is c.next.ensures.counts);
      given = subst (AreGivenBy start.source new.ended) (sym more)
          (gives_more start old new given first before c.next.result c.next.ensures.gives inv.draining inv.given entry is);
    }

none_is : (o : Option Entry) → ((x : Entry) → o ≡ Some x → ⊥) → o ≡ None
none_is None h = refl
none_is (Some x) h = absurd (h x refl)

pub returns-clause-entries : goal.returns-clause-entries
returns-clause-entries g c =
    let f = g.F.Feed in
    let inv = c.loop-all.invariant in
    gave_all (f.state c.args.feed.now) (f.state c.loop-all.feed) (f.state c.next.new.self) c.loop-all.all.items (f.faults c.args.feed.now) (f.faults c.loop-all.feed) c.next.result c.next.ensures.gives inv.draining inv.given
    (c.in_ok-entry.was ∙ ap Ok (none_is c.in_ok-entry.field-0 c.in_default.not-Some))
