-- The store and the parts took the tuple in.
use Rattle.std.proofs.Common.{◌≡◌, ◌∙◌, ◌+◌, ◌-◌, ℕ, length, vec_len, arith, refl, rules, sym}
use Rattle.std.specs.List.{enumerate_from, flat_map}
use Rattle.stream_base.specs.Model.Changes.{changes_between}
use Rattle.stream_base.specs.Model.Journal.{put_in_order}
use Rattle.stream_base.specs.Model.Moments.{moment}
use Rattle.window_laws.specs.After.{with_tuple}
use Rattle.agg_store.specs.Stored.{tuples_of}
use Rattle.key_windows.specs.Calls.{changes_by_put}
use Rattle.key_slicer.specs.Parts.{AllTakeTuple, rooms, turns}
use Rattle.key_slicer.specs.States.{Fits}
use Rattle.key_slicer.specs.Work.{put_work}
use Rattle.key_slicer.specs.Joining.{Joins}
use Rattle.key_slicer.proofs.DueFacts.{exact_with_tuple, joins_of, quiet_with_tuple, waits_with_tuple}
use Rattle.key_slicer.proofs.StateFacts.{all_take, fits_put, put_step}
use Rattle.key_slicer.proofs.UntoldFacts.{all_untold, all_untold_ahead, none_appended, untold_changes}
use Rattle.key_slicer.proofs.SortFacts.{appended_sorted, as_many_turns}
use Rattle.key_slicer.proofs.Loops.{grown}
use Rattle.key_slicer.proofs.WorkFacts.{put_cost, put_is_bounded}
use Rattle.key_slicer.proofs.engine.KeyStateKeyWindows.put.Goals as goal

pub put-requires-clause-takes : goal.put-requires-clause-takes
put-requires-clause-takes g c =
    let r = c.requires.comes.stands in
    let x = c.args.x in
    let s = c.args.self.now in
    let d = c.args.defs.now in
    let m = moment r.0 r.1 c.args.water in
    let f = r.2.known in
    let more = (c.put_in-joined.ensures.comes f.without).0 in
    let all : AllTakeTuple g.P.KeyPart.stands d g.P.KeyPart.is_asked c.args.water x c.put_in-joined.new.store c.before-2.new.self.list.items m f.without s.store more =
    all_take g.P.KeyPart.stands d g.P.KeyPart.is_asked m c.args.water s.next s.store s.parts.list.items c.before-2.new.self.list.items x c.put_in-joined.new.store refl c.requires.comes.ready.water_is f
    c.requires.position c.requires.few c.requires.comes.in_time.within c.requires.comes.in_time.accepted c.put_in-joined.ensures.comes c.before-2.ensures.stays c.before-2.ensures.asked in
    (m, f.without, s.store, more, all)

pub returns-clause-taken : goal.returns-clause-taken
returns-clause-taken g c = record {
  key = search rules;
  next = search rules;
  changes = λ kept marks fits.
      let x = c.args.x in
      let s = c.args.self.now in
      let d = c.args.defs.now in
      let m = moment kept marks c.args.water in
      let f = fits.known in
      let more = (c.put_in-joined.ensures.comes f.without).0 in
      let all : AllTakeTuple g.P.KeyPart.stands d g.P.KeyPart.is_asked c.args.water x c.put_in-joined.new.store c.before-2.new.self.list.items m f.without s.store more =
      all_take g.P.KeyPart.stands d g.P.KeyPart.is_asked m c.args.water s.next s.store s.parts.list.items c.before-2.new.self.list.items x c.put_in-joined.new.store refl c.requires.comes.ready.water_is f
      c.requires.position c.requires.few c.requires.comes.in_time.within c.requires.comes.in_time.accepted c.put_in-joined.ensures.comes c.before-2.ensures.stays c.before-2.ensures.asked in
      (appended_sorted s.key m (with_tuple m x) d.windows s.scratch.items c.put.new.out.items c.as_slice.result.now c.args.out.now.items c.append_sorted.new.out.items (c.requires.comes.ready.told (sym c.needs_no_part.ensures.answer ∙ c.if-needs_no_part.false)).empty
      (c.put.ensures.changes m f.without s.store more all) c.as_slice.ensures.value c.append_sorted.ensures.items);
  capacity = c.append_sorted.ensures.capacity;
  fits = λ kept marks fits.
      let x = c.args.x in
      let s = c.args.self.now in
      let d = c.args.defs.now in
      let m = moment kept marks c.args.water in
      let f = fits.known in
      let more = (c.put_in-joined.ensures.comes f.without).0 in
      let all : AllTakeTuple g.P.KeyPart.stands d g.P.KeyPart.is_asked c.args.water x c.put_in-joined.new.store c.before-2.new.self.list.items m f.without s.store more =
      all_take g.P.KeyPart.stands d g.P.KeyPart.is_asked m c.args.water s.next s.store s.parts.list.items c.before-2.new.self.list.items x c.put_in-joined.new.store refl c.requires.comes.ready.water_is f
      c.requires.position c.requires.few c.requires.comes.in_time.within c.requires.comes.in_time.accepted c.put_in-joined.ensures.comes c.before-2.ensures.stays c.before-2.ensures.asked in
      (fits_put g.P.KeyPart.stands d kept marks c.args.water f.without s.store x more c.put_in-joined.new.store c.put.new.self.list.items c.requires.comes.ready.water_is fits.none_settled all.step (search rules) (c.put.ensures.stands m f.without s.store more all) c.put_in-joined.ensures.bare);
}

pub returns-clause-work : goal.returns-clause-work
returns-clause-work g c = λ kept marks fits.
    let x = c.args.x in
    let s = c.args.self.now in
    let d = c.args.defs.now in
    let m = moment kept marks c.args.water in
    let f = fits.known in
    let more = (c.put_in-joined.ensures.comes f.without).0 in
    let all : AllTakeTuple g.P.KeyPart.stands d g.P.KeyPart.is_asked c.args.water x c.put_in-joined.new.store c.before-2.new.self.list.items m f.without s.store more =
    all_take g.P.KeyPart.stands d g.P.KeyPart.is_asked m c.args.water s.next s.store s.parts.list.items c.before-2.new.self.list.items x c.put_in-joined.new.store refl c.requires.comes.ready.water_is f
    c.requires.position c.requires.few c.requires.comes.in_time.within c.requires.comes.in_time.accepted c.put_in-joined.ensures.comes c.before-2.ensures.stays c.before-2.ensures.asked in
    let changed = vec_len c.put.new.out - vec_len s.scratch in
    let many : changed ≡ length (changes_between d.windows s.key m (with_tuple m x)) = omega (arith, as_many_turns s.key m (with_tuple m x) d.windows, grown s.scratch.items c.put.new.out.items (flat_map (turns s.key m (with_tuple m x)) (enumerate_from 0 d.windows)) (c.put.ensures.changes m f.without s.store more all)) in
    (put_cost d s.key m (with_tuple m x) c.args.x.time s.store c.put_in-joined.new.store.reach (rooms (λ (i : ℕ) (part : g.row.P.Denot). g.P.KeyPart.owed part) c.before-2.new.self.list.items) changed c.args.steps.now c.before-2.new.steps c.put_in-joined.new.steps c.put.new.steps
    c.before-2.ensures.cost.work c.put_in-joined.ensures.work (c.put.ensures.work m f.without s.store more all) c.put.ensures.owed c.put_in-joined.ensures.reach many)

pub returns-clause-bound : goal.returns-clause-bound
returns-clause-bound g c = λ kept marks fits.
    let s = c.args.self.now in
    let d = c.args.defs.now in
    let m = moment kept marks c.args.water in
    let new = moment (put_in_order kept c.args.x) marks c.args.water in (
      put_work d s.key m new c.args.x.time s.store,
      put_is_bounded g.T.AggTree.bounded d s.key m fits.known.without c.args.x.time s.store fits.known.held fits.known.store fits.none_settled c.requires.comes.ready.reach new c.requires.comes.in_time.accepted,
      returns-clause-work g c kept marks fits,
    )

-- a tuple that joined the last slice leaves what is due
pub returns-clause-due : goal.returns-clause-due
returns-clause-due g c = λ stays kept marks due fits quiet.
    let x = c.args.x in
    let s = c.args.self.now in
    let d = c.args.defs.now in
    let f = fits.known in
    let now : Fits g.P.KeyPart.stands d (put_in_order kept x) marks c.args.water (c.args.x.position + 1) c.put_in-joined.new.store c.put.new.self.list.items = (returns-clause-taken g c).fits kept marks fits in
    let joins : Joins d.windows s.store c.args.x.time = joins_of d.windows s.store c.args.x.time f.store (c.put_in-joined.ensures.joined (c.leaves_due.ensures.joined stays)) in
    let timed = c.leaves_due.ensures.timed stays in
    let tuples : tuples_of c.put_in-joined.new.store ≡ put_in_order (tuples_of s.store) x = (c.put_in-joined.ensures.enters (c.leaves_due.ensures.joined stays)) in
    record {
      nothing_changes = λ new rises below.
          quiet_with_tuple g.P.KeyPart.stands d s.key kept marks c.args.water new s.next (c.args.x.position + 1) s.store c.put_in-joined.new.store s.parts.list.items c.put.new.self.list.items x fits now timed joins rises
          (quiet.nothing_changes new rises below);
      waits = λ new is rises below.
          waits_with_tuple g.P.KeyPart.stands d s.key kept marks c.args.water new s.next (c.args.x.position + 1) s.store c.put_in-joined.new.store s.parts.list.items c.put.new.self.list.items x fits now timed joins rises
          g.met.P.KeyPart.waits tuples is (quiet.nothing_changes new rises below) (quiet.waits new is rises below);
    }

pub returns-clause-exact : goal.returns-clause-exact
returns-clause-exact g c = λ stays kept marks due fits exact.
    let x = c.args.x in
    let s = c.args.self.now in
    let now : Fits g.P.KeyPart.stands c.args.defs.now (put_in_order kept x) marks c.args.water (c.args.x.position + 1) c.put_in-joined.new.store c.put.new.self.list.items = (returns-clause-taken g c).fits kept marks fits in
    exact_with_tuple c.args.defs.now s.key kept marks c.args.water due x fits.known.held.may_leave.kinds (c.leaves_due.ensures.timed stays) fits.known.lists.kept now.known.lists.kept exact

pub returns-clause-pace : goal.returns-clause-pace
returns-clause-pace g c = record {
  credit = search rules;
  ahead = λ le each.
      let r = c.requires.comes.stands in
      let x = c.args.x in
      let s = c.args.self.now in
      let d = c.args.defs.now in
      let m = moment r.0 r.1 c.args.water in
      let f = r.2.known in
      let more = (c.put_in-joined.ensures.comes f.without).0 in
      let all : AllTakeTuple g.P.KeyPart.stands d g.P.KeyPart.is_asked c.args.water x c.put_in-joined.new.store c.before-2.new.self.list.items m f.without s.store more =
      all_take g.P.KeyPart.stands d g.P.KeyPart.is_asked m c.args.water s.next s.store s.parts.list.items c.before-2.new.self.list.items x c.put_in-joined.new.store refl c.requires.comes.ready.water_is f
      c.requires.position c.requires.few c.requires.comes.in_time.within c.requires.comes.in_time.accepted c.put_in-joined.ensures.comes c.before-2.ensures.stays c.before-2.ensures.asked in
      c.put.ensures.ahead m f.without s.store more all le (c.before-2.ensures.ahead c.args.water s.store each);
}

-- ---- no part need be told of it
pub returns-then-needs_no_part-clause-taken : goal.returns-then-needs_no_part-clause-taken
returns-then-needs_no_part-clause-taken g c = record {
  key = search rules;
  next = search rules;
  changes = λ kept marks fits.
      let s = c.args.self.now in
      let d = c.args.defs.now in
      let x = c.args.x in
      let f = fits.known in
      none_appended c.args.out.now.items (changes_by_put d s.key kept marks c.args.water x)
      (untold_changes d s.key kept marks c.args.water x f.held.may_leave.kinds (c.needs_no_part.ensures.timed c.if-needs_no_part.true) f.lists.kept.in_order c.requires.comes.in_time.within (c.needs_no_part.ensures.behind c.if-needs_no_part.true));
  capacity = search rules;
  fits = λ kept marks fits.
      let x = c.args.x in
      let s = c.args.self.now in
      let d = c.args.defs.now in
      let m = moment kept marks c.args.water in
      let f = fits.known in
      let more = (c.put_in-entered.ensures.comes f.without).0 in
      let step = put_step g.P.KeyPart.stands d m s.next s.store s.parts.list.items x more c.put_in-entered.new.store f c.requires.position c.requires.few c.requires.comes.in_time.within c.requires.comes.in_time.accepted (c.put_in-entered.ensures.comes f.without).1 in
      (fits_put g.P.KeyPart.stands d kept marks c.args.water f.without s.store x more c.put_in-entered.new.store s.parts.list.items c.requires.comes.ready.water_is fits.none_settled step (search rules)
      (all_untold g.P.KeyPart.stands d m f.without s.store x more c.put_in-entered.new.store s.parts.list.items (c.needs_no_part.ensures.timed c.if-needs_no_part.true) (c.needs_no_part.ensures.behind c.if-needs_no_part.true) step f.stood (g.met.P.KeyPart.stands_with_tuple d)) c.put_in-entered.ensures.bare);
}

pub returns-then-needs_no_part-clause-work : goal.returns-then-needs_no_part-clause-work
returns-then-needs_no_part-clause-work g c = λ kept marks fits.
    let x = c.args.x in
    let s = c.args.self.now in
    let d = c.args.defs.now in
    let m = moment kept marks c.args.water in
    put_cost d s.key m (with_tuple m x) c.args.x.time s.store c.put_in-entered.new.store.reach 0 (length (changes_between d.windows s.key m (with_tuple m x))) c.args.steps.now c.args.steps.now c.put_in-entered.new.steps c.put_in-entered.new.steps
    (omega arith) c.put_in-entered.ensures.work (omega arith) (omega arith) c.put_in-entered.ensures.reach refl

pub returns-then-needs_no_part-clause-bound : goal.returns-then-needs_no_part-clause-bound
returns-then-needs_no_part-clause-bound g c = λ kept marks fits.
    let s = c.args.self.now in
    let d = c.args.defs.now in
    let m = moment kept marks c.args.water in
    let new = moment (put_in_order kept c.args.x) marks c.args.water in (
      put_work d s.key m new c.args.x.time s.store,
      put_is_bounded g.T.AggTree.bounded d s.key m fits.known.without c.args.x.time s.store fits.known.held fits.known.store fits.none_settled c.requires.comes.ready.reach new c.requires.comes.in_time.accepted,
      returns-then-needs_no_part-clause-work g c kept marks fits,
    )

pub returns-then-needs_no_part-clause-due : goal.returns-then-needs_no_part-clause-due
returns-then-needs_no_part-clause-due g c = λ stays kept marks due fits quiet.
    let x = c.args.x in
    let s = c.args.self.now in
    let d = c.args.defs.now in
    let f = fits.known in
    let now : Fits g.P.KeyPart.stands d (put_in_order kept x) marks c.args.water (c.args.x.position + 1) c.put_in-entered.new.store s.parts.list.items = (returns-then-needs_no_part-clause-taken g c).fits kept marks fits in
    let joins : Joins d.windows s.store c.args.x.time = joins_of d.windows s.store c.args.x.time f.store (c.put_in-entered.ensures.joined stays) in
    let timed = c.needs_no_part.ensures.timed c.if-needs_no_part.true in
    let tuples : tuples_of c.put_in-entered.new.store ≡ put_in_order (tuples_of s.store) x = (c.put_in-entered.ensures.enters stays) in
    record {
      nothing_changes = λ new rises below.
          quiet_with_tuple g.P.KeyPart.stands d s.key kept marks c.args.water new s.next (c.args.x.position + 1) s.store c.put_in-entered.new.store s.parts.list.items s.parts.list.items x fits now timed joins rises
          (quiet.nothing_changes new rises below);
      waits = λ new is rises below.
          waits_with_tuple g.P.KeyPart.stands d s.key kept marks c.args.water new s.next (c.args.x.position + 1) s.store c.put_in-entered.new.store s.parts.list.items s.parts.list.items x fits now timed joins rises
          g.met.P.KeyPart.waits tuples is (quiet.nothing_changes new rises below) (quiet.waits new is rises below);
    }

pub returns-then-needs_no_part-clause-exact : goal.returns-then-needs_no_part-clause-exact
returns-then-needs_no_part-clause-exact g c = λ stays kept marks due fits exact.
    let x = c.args.x in
    let s = c.args.self.now in
    let now : Fits g.P.KeyPart.stands c.args.defs.now (put_in_order kept x) marks c.args.water (c.args.x.position + 1) c.put_in-entered.new.store s.parts.list.items = (returns-then-needs_no_part-clause-taken g c).fits kept marks fits in
    exact_with_tuple c.args.defs.now s.key kept marks c.args.water due x fits.known.held.may_leave.kinds (c.needs_no_part.ensures.timed c.if-needs_no_part.true) fits.known.lists.kept now.known.lists.kept exact

pub returns-then-needs_no_part-clause-pace : goal.returns-then-needs_no_part-clause-pace
returns-then-needs_no_part-clause-pace g c = record {
  credit = search rules;
  ahead = λ le each.
      let r = c.requires.comes.stands in
      let x = c.args.x in
      let s = c.args.self.now in
      let d = c.args.defs.now in
      let m = moment r.0 r.1 c.args.water in
      let f = r.2.known in
      let more = (c.put_in-entered.ensures.comes f.without).0 in
      let step = put_step g.P.KeyPart.stands d m s.next s.store s.parts.list.items x more c.put_in-entered.new.store f c.requires.position c.requires.few c.requires.comes.in_time.within c.requires.comes.in_time.accepted (c.put_in-entered.ensures.comes f.without).1 in
      all_untold_ahead g.P.KeyPart.stands d m f.without s.store x more c.put_in-entered.new.store s.parts.list.items (c.needs_no_part.ensures.timed c.if-needs_no_part.true) (c.needs_no_part.ensures.behind c.if-needs_no_part.true) step f.stood g.P.KeyPart.is_ahead (g.met.P.KeyPart.ahead_with_tuple d) each;
}
