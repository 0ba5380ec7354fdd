-- The slices of the store part at the sessions, before the tuple is in it and after.
use Rattle.std.proofs.Common.{◌≡◌, ◌≤◌, ◌∙◌, ap, sym, subst, refl, arith}
use Rattle.std.specs.Int.{w64}
use Rattle.std.proofs.lemmas.Int.{to_z-of_z}
use Rattle.stream_base.specs.declared.kept.Kept.{Kept}
use Rattle.stream_base.specs.Model.Journal.{put_in_order}
use Rattle.stream_base.specs.Model.Moments.{kept_at}
use Rattle.key_parts.specs.Calls.{window_at}
use Rattle.agg_store.specs.Stored.{tuples_of}
use Rattle.context_windows.specs.Aligned.{IsOfSessions}
use Rattle.context_windows.specs.Spanned.{FollowsSessions, gap_at}
use Rattle.slice_tests.specs.Together.{AreOfSessions}
use Rattle.slice_tests.proofs.ContextFacts.{of_sessions, sessions_after_before, sessions_stay}
use Rattle.slice_tests.proofs.sessions.SessionWindow.put.Goals as goal

pub before-requires-clause-aligned : goal.before-requires-clause-aligned
before-requires-clause-aligned g c =
    let d = c.args.self.now.defs in
    let h : AreOfSessions d c.reserve.new.self c.reserve-2.new.self = sessions_stay d c.args.self.now.store c.reserve.new.self c.args.self.now.sessions c.reserve-2.new.self c.requires.together c.reserve.ensures.kept c.reserve-2.ensures.kept in
    c.slices_part_at_sessions.ensures.asked d.windows (window_at d 0) (tuples_of c.reserve.new.self) c.reserve.new.self c.reserve-2.new.self c.args.time c.args.water (of_sessions d c.reserve.new.self h.session c.is_cut.ensures) h.follows

pub put-requires-2-clause-aligned : goal.put-requires-2-clause-aligned
put-requires-2-clause-aligned g c =
    let d = c.args.self.now.defs in
    let x : Kept = kept_at c.args.pos c.args.time c.args.value in
    let tuples : tuples_of c.put.new.self ≡ put_in_order (tuples_of c.reserve.new.self) x = c.put.ensures.tuples ∙ ap (λ v. put_in_order (tuples_of c.reserve.new.self) (kept_at c.args.pos c.args.time v)) (to_z-of_z w64 c.args.value c.ranges.value) in
    let h : AreOfSessions d c.reserve.new.self c.reserve-2.new.self = sessions_stay d c.args.self.now.store c.reserve.new.self c.args.self.now.sessions c.reserve-2.new.self c.requires.together c.reserve.ensures.kept c.reserve-2.ensures.kept in
    let f : FollowsSessions (gap_at d 0) (tuples_of c.reserve.new.self) c.before-2.new.self = sessions_after_before (gap_at d 0) (tuples_of c.reserve.new.self) c.reserve-2.new.self c.before-2.new.self h.follows c.before-2.ensures.kept.spans c.before-2.ensures.kept.forgotten in
    let o = subst (λ l. IsOfSessions d.windows (window_at d 0) l c.put.new.self) tuples (of_sessions d c.put.new.self h.session c.is_cut-2.ensures) in
    let le : c.before-2.new.self.forgotten ≤ c.args.time = omega (arith, c.before-2.ensures.kept.forgotten ∙ c.reserve-2.ensures.kept.forgotten, c.requires.unsettled) in
    c.slices_part_at_sessions.ensures.told d.windows (window_at d 0) (tuples_of c.reserve.new.self) x c.put.new.self c.before-2.new.self c.args.water o f le

pub returns-clause-together : goal.returns-clause-together
returns-clause-together g c =
    let d = c.args.self.now.defs in
    let x : Kept = kept_at c.args.pos c.args.time c.args.value in
    let tuples : tuples_of c.put.new.self ≡ put_in_order (tuples_of c.reserve.new.self) x = c.put.ensures.tuples ∙ ap (λ v. put_in_order (tuples_of c.reserve.new.self) (kept_at c.args.pos c.args.time v)) (to_z-of_z w64 c.args.value c.ranges.value) in
    let h : AreOfSessions d c.reserve.new.self c.reserve-2.new.self = sessions_stay d c.args.self.now.store c.reserve.new.self c.args.self.now.sessions c.reserve-2.new.self c.requires.together c.reserve.ensures.kept c.reserve-2.ensures.kept in
    let f : FollowsSessions (gap_at d 0) (tuples_of c.reserve.new.self) c.before-2.new.self = sessions_after_before (gap_at d 0) (tuples_of c.reserve.new.self) c.reserve-2.new.self c.before-2.new.self h.follows c.before-2.ensures.kept.spans c.before-2.ensures.kept.forgotten in
    let le : c.before-2.new.self.forgotten ≤ c.args.time = omega (arith, c.before-2.ensures.kept.forgotten ∙ c.reserve-2.ensures.kept.forgotten, c.requires.unsettled) in
    record {
      session = h.session;
      sliced = c.put.ensures.sliced;
      follows = subst (λ l. FollowsSessions (gap_at d 0) l c.put-2.new.self) (sym tuples) (c.put-2.ensures.follows (tuples_of c.reserve.new.self) x f le refl);
    }
