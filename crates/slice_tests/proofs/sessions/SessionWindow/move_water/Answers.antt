-- The slices of the store part at the sessions that become complete.
use Rattle.key_parts.specs.Calls.{window_at}
use Rattle.agg_store.specs.Stored.{tuples_of}
use Rattle.slice_tests.proofs.ContextFacts.{of_sessions}
use Rattle.slice_tests.proofs.sessions.SessionWindow.move_water.Goals as goal

pub water-requires-clause-aligned : goal.water-requires-clause-aligned
water-requires-clause-aligned g c =
    let d = c.args.self.now.defs in
    let h = c.requires in
    c.slices_part_at_sessions.ensures.due d.windows (window_at d 0) (tuples_of c.args.self.now.store) c.args.self.now.store c.args.self.now.sessions c.args.old c.args.new (of_sessions d c.args.self.now.store h.session c.is_cut.ensures) h.follows
