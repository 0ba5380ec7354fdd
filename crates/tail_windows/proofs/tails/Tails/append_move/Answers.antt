-- Each key that is due brings what the move of the watermark does, and the others nothing.
use Rattle.std.proofs.Common.{◌≡◌, subst, sym}
use Rattle.tail_windows.specs.Following.{Followed, StandsFor}
use Rattle.tail_windows.specs.Noted.{AreNoted}
use Rattle.tail_windows.proofs.Answering.{move_changes}
use Rattle.tail_windows.proofs.Noting.{none_of_others}
use Rattle.tail_windows.proofs.tails.Tails.append_move.Goals as goal

pub returns-clause-changes : goal.returns-clause-changes
returns-clause-changes g c journal e stands word is =
    let f : Followed = record { def = c.self.inside.def; waters = c.self.inside.waters; lists = c.self.inside.keys } in
    let same : f ≡ c.args.self.now = c.self.view_is in
    let inside : StandsFor f journal = subst (λ (h : Followed). StandsFor h journal) (sym same) stands in
    let noted : AreNoted (f.def).period f.lists c.self.inside.agenda c.water-old.result = subst (λ w. AreNoted (f.def).period f.lists c.self.inside.agenda w) (sym c.water-old.ensures.value) c.self.invariant.1.noted in
    move_changes f c.args.self.now same journal e c.append_move.result c.args.out.now.items c.append_move.new.out.items c.args.water c.water-old.result c.in_ok-due.due.keys inside word is c.append_move.ensures.by_key
    (none_of_others f.def f.lists c.self.inside.agenda c.in_ok-due.due.keys c.water-old.result c.args.water noted c.in_ok-due.ensures)
    (c.water-old.ensures.journal journal inside.waters) c.append_move.ensures.changes
