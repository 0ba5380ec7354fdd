-- What the state of a key stands for.
use Rattle.std.proofs.Common.{true, false, Bool, drop, ◌≡◌, ◌∙◌, ◌≤◌, ◌<◌, ◌+◌, ◌-◌, ℕ, List, [], ◌∷◌, get_or, length, map, ap, sym, refl, subst, arith, rules, inl, inr, w64, ⊎_elim}
use Rattle.std.specs.Prelude.{◌≢◌, ◌⊎◌, All, FitsSigned, filter}
use Rattle.std.specs.BTreeSet.{insert_key}
use Rattle.std.specs.List.{Contains, enumerate_from, flat_map, list_all}
use Rattle.std.specs.Ordering.{nat_cmp}
use Rattle.std.specs.List.Sorted.{IsStrictlyIncreasing}
use Rattle.std.proofs.Math.Seq.{drop-nil}
use Rattle.std.proofs.lemmas.Bool.{cases_Bool}
use Rattle.std.proofs.lemmas.List.Elements.{All-contains, All-nil, All-weaker}
use Rattle.stream_base.specs.Limits.{AreWithinLimits, Definitions}
use Rattle.stream_base.specs.Kinds.{IsKindWithin, is_events}
use Rattle.stream_base.specs.declared.change.Change.{Change}
use Rattle.stream_base.specs.declared.change.Change.TheVariants.{New}
use Rattle.stream_base.specs.Laws.{becomes_complete, completions}
use Rattle.stream_base.specs.declared.kept.Kept.{Kept}
use Rattle.stream_base.specs.declared.limits.TheConstants.{JOURNAL_MAX, TIME_MAX}
use Rattle.stream_base.specs.Model.Changes.{Moment, row_of}
use Rattle.stream_base.specs.declared.def.Def.{Def}
use Rattle.stream_base.specs.declared.func.Func.TheVariants.{Count}
use Rattle.stream_base.specs.declared.kind.Kind.TheVariants.{Marks}
use Rattle.stream_base.specs.Model.Slices.{is_settled, runs_of, unsettled}
use Rattle.stream_base.specs.Model.Windows.{first_time, instances_of, last_time}
use Rattle.stream_base.proofs.KindFacts.{no_instances}
use Rattle.stream_base.proofs.ChangeFacts.{changes_at_water, flat_map_none}
use Rattle.stream_base.specs.Model.Journal.{put_in_order}
use Rattle.stream_base.proofs.Distinct.{All_from_members}
use Rattle.stream_base.proofs.Members.{Contains-insert_cases}
use Rattle.stream_base.proofs.Rising.{Contains-insert_key_cases, none_in_nil}
use Rattle.stream_base.specs.Model.Moments.{IsWater, moment}
use Rattle.window_laws.specs.After.{at_water, with_mark, with_tuple}
use Rattle.slice_lists.specs.Runs.{IsAligned, parted_at}
use Rattle.window_laws.specs.Settled.{without_first}
use Rattle.window_laws.proofs.SettledFacts.{not_all}
use Rattle.window_laws.proofs.KeptFacts.{put_is_kept}
use Rattle.partials.specs.Apart.{IsReachOver}
use Rattle.slice_lists.specs.Touched.{marks_left, slices_from}
use Rattle.slice_lists.specs.Slices.{joined}
use Rattle.agg_store.specs.Stored.{IsAsBefore, IsSliced, Stored, tuples_of}
use Rattle.slice_lists.proofs.MarkFacts.{rising_more}
use Rattle.slice_lists.proofs.SliceEdits.{put_length}
use Rattle.key_windows.specs.Calls.{changes_by_move}
use Rattle.key_parts.specs.Calls.{Standing, StandsAt, window_at}
use Rattle.key_parts.specs.Held.{IsHeld}
use Rattle.key_parts.specs.Moves.{AreLists, Comes, IsMarkStep, IsPurge, IsPutStep, SettlesUpTo, all_count_events}
use Rattle.held_laws.specs.Settling.{IsSettledUpTo, NoneSettled}
use Rattle.held_laws.specs.Dropped.{IsDropped}
use Rattle.held_laws.proofs.CountFacts.{unsettled_slices}
use Rattle.held_laws.proofs.PurgeFacts.{parts_where_settled, purged}
use Rattle.held_laws.proofs.SettleFacts.{settled_up_to_least}
use Rattle.held_laws.proofs.HoldFacts.{fresh_held, held_after_mark, held_after_move, held_after_tuple}
use Rattle.held_laws.proofs.OpenFacts.{open_after_tuple, open_from}
use Rattle.key_slicer.specs.Parts.{AllStandAt, AllTakeTuple, AreStanding, EachPart, IsLeastOf, rooms}
use Rattle.key_slicer.specs.States.{Fits, IsBlank, IsReadyToPut, IsReadyToTake, StandsFor}
use Rattle.key_slicer.proofs.Loops.{none_of, one_of_all}
use Rattle.key_slicer.proofs.StoreFacts.{store_held, store_marked, store_purged, store_put, store_with_room}

-- ---- a store with more room
as_before : (s t : Stored) → IsAsBefore s t → record { slices = s.slices; marks = s.marks; dropped = s.dropped; spare = t.spare; reach = t.reach } ≡ t
as_before s t e = λ i. record { slices = sym e.slices i; marks = sym e.marks i; dropped = sym e.dropped i; spare = t.spare; reach = t.reach }

pub held_with_room : (d : Definitions) (m : Moment) (n : ℕ) (s t : Stored) → IsAsBefore s t → IsHeld d m n s → IsHeld d m n t
held_with_room d m n s t e h = subst (IsHeld d m n) (as_before s t e) (record {
  may_leave = h.may_leave;
  tuples = h.tuples;
  sliced = h.sliced;
  behind = h.behind;
  bounded = h.bounded;
  marks = h.marks;
})

-- no tuple in it is settled where none was
open_with_room : (d : Definitions) (m : Moment) (s t : Stored) → IsAsBefore s t → NoneSettled d m s → NoneSettled d m t
open_with_room d m s t e u = subst (λ ss. All (λ x. is_settled d m x ≡ false) (joined ss)) (sym e.slices) u

-- none is where there is none
pub none_in_bare : (d : Definitions) (m : Moment) (s : Stored) → s.slices ≡ [] → NoneSettled d m s
none_in_bare d m s e = subst (λ ss. All (λ x. is_settled d m x ≡ false) (joined ss)) (sym e) (All-nil (λ x. is_settled d m x ≡ false))

pub no_more_room : (s : Stored) → IsAsBefore s s
no_more_room s = record { slices = refl; marks = refl; dropped = refl; reach = refl }

module _ {P : Type 0} (stands : Standing P) (d : Definitions) where
  -- all parts of a key that its state stands for stand at its watermark
  pub all_stand : (m : Moment) (water next : ℕ) (s : Stored) (parts : List P) → m.water ≡ water → (f : StandsFor stands d m next s parts) → AllStandAt stands d water s parts m f.without
  all_stand m water next s parts is f = record { water_is = is; lists = (next, f.lists); store = f.store; held = f.held; stood = f.stood }

  -- what the parts and the store stand for they go on to stand for
  pub stands_reserved : ((window : ℕ) (m : Moment) (n : ℕ) (s more : Stored) (part : P) → IsAsBefore s more → stands d window m n s part → stands d window m n more part)
      → (m : Moment) (next : ℕ) (s t : Stored) (parts later : List P)
      → ((m : Moment) (n : ℕ) (s : Stored) → AreStanding stands d m n s parts → AreStanding stands d m n s later)
      → IsAsBefore s t → StandsFor stands d m next s parts → StandsFor stands d m next t later
  stands_reserved law m next s t parts later stays e f =
      let a : AreStanding stands d m f.without s later = stays m f.without s f.stood in
      record {
        without = f.without;
        lists = f.lists;
        store = store_with_room s t e f.store;
        held = held_with_room d m f.without s t e f.held;
        stood = record { as_many = a.as_many; each = λ i x l. law i m f.without s t _ e (a.each i x l) };
        bare = λ all. e.slices ∙ f.bare all;
      }

  pub fits_reserved : ((window : ℕ) (m : Moment) (n : ℕ) (s more : Stored) (part : P) → IsAsBefore s more → stands d window m n s part → stands d window m n more part)
      → (kept : List Kept) (marks : List ℕ) (water next : ℕ) (s t : Stored) (parts later : List P)
      → ((m : Moment) (n : ℕ) (s : Stored) → AreStanding stands d m n s parts → AreStanding stands d m n s later)
      → IsAsBefore s t → Fits stands d kept marks water next s parts → Fits stands d kept marks water next t later
  fits_reserved law kept marks water next s t parts later stays e f = record {
    known = stands_reserved law (moment kept marks water) next s t parts later stays e f.known;
    none_settled = open_with_room d (moment kept marks water) s t e f.none_settled;
    clock = ⊎_elim (λ w. inl w) (λ (b : IsBlank stands d kept marks next s parts). inr (record { no_tuple = b.no_tuple; no_mark = b.no_mark; anywhere = λ w. stands_reserved law (moment [] [] w) next s t parts later stays e (b.anywhere w) })) f.clock;
  }

-- ---- lists
-- lists of fewer tuples than a next position are so of fewer than a later one
pub lists_later : (m : Moment) (next later : ℕ) → next ≤ later → later ≤ JOURNAL_MAX → AreLists m next → AreLists m later
lists_later m next later l most a = record {
  kept = a.kept;
  times = a.times;
  below = All-weaker (λ (x : Kept). x.position < next) (λ x. x.position < later) (λ x h. omega (arith, h)) m.kept a.below;
  few = omega (arith, a.few);
  most = most;
  rising = a.rising;
  mark_times = a.mark_times;
}

pub lists_with_tuple : (m : Moment) (x : Kept) → x.position < JOURNAL_MAX → x.time ≤ TIME_MAX → AreLists m x.position → AreLists (with_tuple m x) (x.position + 1)
lists_with_tuple m x most early a = record {
  kept = put_is_kept m.kept x a.kept (omega (arith, early)) (All-weaker (λ (y : Kept). y.position < x.position) (λ y. x.position ≢ y.position) (λ y l e. omega (arith, l, e)) m.kept a.below);
  times = each (λ (y : Kept). y.time ≤ TIME_MAX) early (λ y c. All-contains (λ (y : Kept). y.time ≤ TIME_MAX) m.kept y a.times c);
  below = each (λ (y : Kept). y.position < x.position + 1) (omega arith) (λ y c. omega (arith, All-contains (λ (y : Kept). y.position < x.position) m.kept y a.below c));
  few = omega (arith, put_length m.kept x, a.few);
  most = omega (arith, most);
  rising = a.rising;
  mark_times = a.mark_times;
}
  where
    each : (holds : Kept → Type 0) → holds x → ((y : Kept) → Contains m.kept y → holds y) → All holds (put_in_order m.kept x)
    each holds own old = All_from_members holds (put_in_order m.kept x) (λ y b. elim (Contains-insert_cases m.kept _ x y b) [ inl e ↦ subst holds e own | inr c ↦ old y c ])

pub lists_with_mark : (m : Moment) (next time : ℕ) → time ≤ TIME_MAX → AreLists m next → AreLists (with_mark m time) next
lists_with_mark m next time early a = record {
  kept = a.kept;
  times = a.times;
  below = a.below;
  few = a.few;
  most = a.most;
  rising = rising_more m.marks time a.rising;
  mark_times = All_from_members (λ mark. mark ≤ TIME_MAX) (insert_key nat_cmp m.marks time)
      (λ mark c. elim (Contains-insert_key_cases nat_cmp time m.marks mark c) [ inl e ↦ subst (λ n. n ≤ TIME_MAX) e early | inr b ↦ All-contains (λ mark. mark ≤ TIME_MAX) m.marks mark a.mark_times b ]);
}

pub lists_at_water : (m : Moment) (next water : ℕ) → AreLists m next → AreLists (at_water m water) next
lists_at_water m next water a = record { kept = a.kept; times = a.times; below = a.below; few = a.few; most = a.most; rising = a.rising; mark_times = a.mark_times }

none_rise : IsStrictlyIncreasing []
none_rise = search rules

-- ---- the calls
module _ {P : Type 0} (stands : Standing P) (d : Definitions) where
  -- a fresh key
  pub fresh_fits : (water : ℕ) (s : Stored) (parts : List P) → AreWithinLimits d → s.slices ≡ [] → s.marks ≡ [] → s.dropped ≡ 0 → IsSliced d.windows s
      → ((water : ℕ) (s : Stored) → s.slices ≡ [] → AreStanding stands d (moment [] [] water) 0 s parts) → Fits stands d [] [] water 0 s parts
  fresh_fits water s parts limits slices marks dropped sliced stood = record {
    known = at water;
    none_settled = none_in_bare d (moment [] [] water) s slices;
    clock = inr (record { no_tuple = refl; no_mark = refl; anywhere = at });
  }
    where
      at : (water : ℕ) → StandsFor stands d (moment [] [] water) 0 s parts
      at water =
          let held : IsHeld d (moment [] [] water) 0 s = fresh_held d water s limits.kinds slices marks dropped sliced in
          let lists : AreLists (moment [] [] water) 0 = record {
            kept = (held.may_leave).kept;
            times = All-nil (λ (x : Kept). x.time ≤ TIME_MAX);
            below = All-nil (λ (x : Kept). x.position < 0);
            few = omega arith;
            most = omega arith;
            rising = none_rise;
            mark_times = All-nil (λ mark. mark ≤ TIME_MAX);
          } in
          record {
            without = 0;
            lists = lists;
            store = store_held d (moment [] [] water) 0 0 s held lists (subst (λ ss. All (λ (x : Kept). FitsSigned w64 x.value) (joined ss)) (sym slices) (All-nil (λ (x : Kept). FitsSigned w64 x.value))) (subst IsStrictlyIncreasing (sym marks) none_rise);
            held = held;
            stood = stood water s slices;
            bare = λ all. slices;
          }

  -- a tuple comes
  pub put_step : (m : Moment) (next : ℕ) (s : Stored) (parts : List P) (x : Kept) (more : ℕ) (after : Stored) (f : StandsFor stands d m next s parts)
      → next ≤ x.position → x.position < JOURNAL_MAX → x.time ≤ TIME_MAX → m.water ≤ x.time + d.lateness → Comes d f.without s x more after → IsPutStep d m f.without s x more after
  put_step m next s parts x more after f l few early in_time comes = record {
    lists = lists_later m next x.position l (omega arith) f.lists;
    next = few;
    time = early;
    in_time = in_time;
    store = f.store;
    held = f.held;
    comes = comes;
  }

  pub fits_put : (kept : List Kept) (marks : List ℕ) (water n : ℕ) (s : Stored) (x : Kept) (more : ℕ) (after : Stored) (later : List P) → IsWater water → NoneSettled d (moment kept marks water) s
      → IsPutStep d (moment kept marks water) n s x more after → FitsSigned w64 x.value → AreStanding stands d (with_tuple (moment kept marks water) x) more after later → (all_count_events d → after.slices ≡ [])
      → Fits stands d (put_in_order kept x) marks water (x.position + 1) after later
  fits_put kept marks water n s x more after later is open_ p value stood bare =
      let m : Moment = moment kept marks water in
      let lists : AreLists (with_tuple m x) (x.position + 1) = lists_with_tuple m x p.next p.time p.lists in
      let held : IsHeld d (with_tuple m x) more after = held_after_tuple d m n s x more after p in
      record {
        known = record {
          without = more;
          lists = lists;
          store = store_put d m (with_tuple m x) n (x.position + 1) s x more after p held lists value;
          held = held;
          stood = stood;
          bare = bare;
        };
        none_settled = open_after_tuple d m n s x more after p open_;
        clock = inl is;
      }

  pub all_take : (is_asked : Definitions → ℕ → Moment → ℕ → P → Type 0) (m : Moment) (water next : ℕ) (s : Stored) (parts later : List P) (x : Kept) (after : Stored) → m.water ≡ water → IsWater water
      → (f : StandsFor stands d m next s parts) → next ≤ x.position → x.position < JOURNAL_MAX → x.time ≤ TIME_MAX → m.water ≤ x.time + d.lateness
      → (comes : (n : ℕ) → (more : ℕ) × Comes d n s x more after)
      → ((m : Moment) (n : ℕ) (s : Stored) → AreStanding stands d m n s parts → AreStanding stands d m n s later)
      → ((m : Moment) (n : ℕ) → AllStandAt stands d water s parts m n → EachPart (λ i part. is_asked d i m x.time part) later)
      → AllTakeTuple stands d is_asked water x after later m f.without s (comes f.without).0
  all_take is_asked m water next s parts later x after is under f l few early in_time comes stays asked = record {
    water_is = is;
    is_water = under;
    step = put_step m next s parts x (comes f.without).0 after f l few early in_time (comes f.without).1;
    stood = stays m f.without s f.stood;
    asked = asked m f.without (all_stand stands d m water next s parts is f);
  }

  -- a mark comes
  pub mark_step : (m : Moment) (next : ℕ) (s : Stored) (parts : List P) (time : ℕ) (after : Stored) (f : StandsFor stands d m next s parts) → time ≤ TIME_MAX → m.water ≤ time + d.lateness
      → tuples_of after ≡ tuples_of s → after.slices ≡ flat_map (parted_at time) s.slices → IsSliced d.windows after → after.marks ≡ insert_key nat_cmp s.marks time → after.dropped ≡ s.dropped
      → IsMarkStep d m f.without s time after
  mark_step m next s parts time after f early in_time tuples slices sliced marks dropped = record {
    lists = (next, f.lists);
    early = early;
    in_time = in_time;
    store = f.store;
    held = f.held;
    tuples = tuples;
    slices = slices;
    sliced = sliced;
    marks = marks;
    dropped = dropped;
  }

  pub stands_marked : (m : Moment) (next n : ℕ) (s : Stored) (time : ℕ) (after : Stored) (later : List P) → AreLists m next → IsMarkStep d m n s time after → AreStanding stands d (with_mark m time) n after later
      → (all_count_events d → s.slices ≡ []) → StandsFor stands d (with_mark m time) next after later
  stands_marked m next n s time after later lists p stood bare =
      let more : AreLists (with_mark m time) next = lists_with_mark m next time p.early lists in
      let held : IsHeld d (with_mark m time) n after = held_after_mark d m n s time after p in
      record {
        without = n;
        lists = more;
        store = store_marked d m (with_mark m time) n next s time after p held more;
        held = held;
        stood = stood;
        bare = λ all. p.slices ∙ ap (flat_map (parted_at time)) (bare all);
      }

  -- the watermark moves
  pub stands_moved : (kept : List Kept) (marks : List ℕ) (old new next : ℕ) (s : Stored) (parts later : List P) → old ≤ new → (f : StandsFor stands d (moment kept marks old) next s parts)
      → AreStanding stands d (moment kept marks new) f.without s later → StandsFor stands d (moment kept marks new) next s later
  stands_moved kept marks old new next s parts later l f stood = record {
    without = f.without;
    lists = lists_at_water (moment kept marks old) next new f.lists;
    store = f.store;
    held = held_after_move d (moment kept marks old) f.without s new f.held l;
    stood = stood;
    bare = f.bare;
  }

  -- it moves to where nothing becomes complete and no tuple is settled, and the state is left as it is
  pub fits_waiting : ((d : Definitions) (window : ℕ) (key : List ℕ) (m : Moment) (n : ℕ) (s : Stored) (part : P) (new : ℕ) → StandsAt stands d window m.water s part m n → m.water ≤ new
      → completions key m new (window, window_at d window) ≡ [] → stands d window (at_water m new) n s part)
      → (key : List ℕ) (kept : List Kept) (marks : List ℕ) (old new next : ℕ) (s : Stored) (parts : List P) → old ≤ new → IsWater new
      → flat_map (completions key (moment kept marks old) new) (enumerate_from 0 d.windows) ≡ [] → NoneSettled d (moment kept marks new) s
      → StandsFor stands d (moment kept marks old) next s parts → Fits stands d kept marks new next s parts
  fits_waiting law key kept marks old new next s parts l is none open_ f =
      let m : Moment = moment kept marks old in
      let many : length parts ≡ length d.windows = (f.stood).as_many in
      record {
        known = stands_moved kept marks old new next s parts parts l f (record {
          as_many = many;
          each = λ i x b. law d i key m f.without s (get_or parts i x) new (one_of_all stands d old s parts m f.without i x b (all_stand stands d m old next s parts refl f)) l
              (none_of (completions key m new) d.windows i (record { kind = Marks; func = Count }) (omega (arith, b, many)) none);
        });
        none_settled = open_;
        clock = inl is;
      }

  -- a key that has nothing yet stands under every watermark
  pub fits_blank : (kept : List Kept) (marks : List ℕ) (water next : ℕ) (s : Stored) (parts : List P) → IsBlank stands d kept marks next s parts → Fits stands d kept marks water next s parts
  fits_blank kept marks water next s parts b = record {
    known = subst (λ ks. StandsFor stands d (moment ks marks water) next s parts) (sym b.no_tuple) (subst (λ ms. StandsFor stands d (moment [] ms water) next s parts) (sym b.no_mark) (b.anywhere water));
    none_settled = subst (All (λ x. is_settled d (moment kept marks water) x ≡ false)) (sym (((b.anywhere water).held).tuples ∙ drop-nil (b.anywhere water).without)) (All-nil (λ x. is_settled d (moment kept marks water) x ≡ false));
    clock = inr b;
  }

  -- the same state, told in other words
  pub fits_same : (kept : List Kept) (marks : List ℕ) (water next next' : ℕ) (s s' : Stored) (parts parts' : List P) → next' ≡ next → s' ≡ s → parts' ≡ parts
      → Fits stands d kept marks water next s parts → Fits stands d kept marks water next' s' parts'
  fits_same kept marks water next next' s s' parts parts' en es ep f =
      subst (λ n. Fits stands d kept marks water n s' parts') (sym en) (subst (λ t. Fits stands d kept marks water next t parts') (sym es) (subst (λ ps. Fits stands d kept marks water next s ps) (sym ep) f))

pub ready_to_take : {P : Type 0} (bounded : ℕ → ℕ → Type 0) (is_ready : ℕ → P → Type 0) (room : ℕ → P → ℕ) (water : ℕ) (s s' : Stored) (parts parts' : List P) (total promise : ℕ) (scratch : List Change) (spare : ℕ)
    → IsWater water → EachPart is_ready parts → 1 ≤ s.spare → IsReachOver bounded (length s.slices) s.reach → total ≡ rooms room parts → s' ≡ s → parts' ≡ parts → promise ≡ total → scratch ≡ [] → total ≤ spare
    → IsReadyToTake bounded is_ready room water s' parts' promise scratch spare
ready_to_take bounded is_ready room water s s' parts parts' total promise scratch spare is each one reach sum es ep said none fits = record {
  water_is = is;
  each = subst (EachPart is_ready) (sym ep) each;
  store = subst (λ (t : Stored). 1 ≤ t.spare) (sym es) one;
  reach = subst (λ (t : Stored). IsReachOver bounded (length t.slices) t.reach) (sym es) reach;
  promised = said ∙ sum ∙ ap (rooms room) (sym ep);
  empty = none;
  fits_in = omega (arith, said, fits);
}

-- whoever is ready to take a tuple in is ready for it
pub ready_to_put : {P : Type 0} (bounded : ℕ → ℕ → Type 0) (is_ready : ℕ → P → Type 0) (room : ℕ → P → ℕ) (untold : Bool) {water : ℕ} {s : Stored} {parts : List P} {promise : ℕ} {scratch : List Change} {spare : ℕ}
    → IsReadyToTake bounded is_ready room water s parts promise scratch spare → IsReadyToPut bounded is_ready room untold water s parts promise scratch spare
ready_to_put bounded is_ready room untold r = record { water_is = r.water_is; store = r.store; reach = r.reach; told = λ e. r }

-- ---- how many slices have unsettled tuples
module _ {P : Type 0} (stands : Standing P) (d : Definitions) (settles_at : ℕ → P → ℕ) (some : list_all (λ w. is_events w.kind) d.windows ≡ false) where
  -- what is left of a key is settled up to the least of the times of its parts
  pub up_to_time : (m : Moment) (water next : ℕ) (s : Stored) (parts : List P) (time : ℕ) → (f : StandsFor stands d m next s parts) → IsLeastOf settles_at (water - d.lateness) parts time
      → EachPart (λ i part. SettlesUpTo d.lateness (at_water (without_first f.without m) water) (window_at d i) (settles_at i part)) parts
      → IsSettledUpTo d (at_water (without_first f.without m) water) time
  up_to_time m water next s [] time f least each = let w = not_all (λ (w : Def). is_events w.kind) d.windows some in absurd (omega (arith, (f.stood).as_many, (w.1).1))
  up_to_time m water next s (p ∷ parts) time f least each =
      settled_up_to_least d m f.without water (λ i. settles_at i (get_or (p ∷ parts) i p)) time (f.held).may_leave some (λ i l. each i p (omega (arith, (f.stood).as_many)))
      (record {
        by_water = least.by_most;
        by_each = λ i l. least.by_each i p (omega (arith, (f.stood).as_many));
        is_one = ⊎_elim (λ e. inl e) (λ (o : (i : ℕ) × (i < length (p ∷ parts)) × ((x : P) → time ≡ settles_at i (get_or (p ∷ parts) i x))). inr (o.0, omega (arith, o.1, (f.stood).as_many), o.2 p)) least.is_one;
      })

  -- as many slices begin there or later as the unsettled tuples have
  pub slices_counted : (kept : List Kept) (marks : List ℕ) (w water next : ℕ) (s : Stored) (parts : List P) (time : ℕ) → w ≤ water → (f : StandsFor stands d (moment kept marks w) next s parts)
      → IsLeastOf settles_at (water - d.lateness) parts time
      → EachPart (λ i part. SettlesUpTo d.lateness (at_water (without_first f.without (moment kept marks w)) water) (window_at d i) (settles_at i part)) parts
      → length (slices_from time s.slices) ≡ length (runs_of d.windows marks (unsettled d (moment kept marks water)))
  slices_counted kept marks w water next s parts time le f least each =
      ap length (sym (unsettled_slices d (moment kept marks w) f.without water time s f.held f.store le (up_to_time (moment kept marks w) water next s parts time f least each)))

-- ---- the slices before the least time leave, where each window counts events too
module _ {P : Type 0} (stands : Standing P) (d : Definitions) (settles_at : ℕ → P → ℕ) (m : Moment) (next : ℕ) (s : Stored) (parts : List P) (time : ℕ) (f : StandsFor stands d m next s parts) (least : IsLeastOf settles_at (m.water - d.lateness) parts time)
    (each : EachPart (λ i part. SettlesUpTo d.lateness (without_first f.without m) (window_at d i) (settles_at i part)) parts) where
  -- either no slice is there, or all windows have settled up to the time
  bare_or_settled : (s.slices ≡ []) ⊎ IsSettledUpTo d (without_first f.without m) time
  bare_or_settled =
      ⊎_elim
      (λ all. inl (f.bare all))
      (λ some. inr (up_to_time stands d settles_at some m m.water next s parts time f least each))
      (cases_Bool (list_all (λ w. is_events w.kind) d.windows))

  -- the state goes on to stand for the key
  pub purge_step : (after : Stored) → IsDropped time s after → (IsSliced d.windows s → IsSliced d.windows after) → (more : ℕ) × IsPurge d m f.without s time more after
  purge_step after dropped sliced = purged d m f.without next time s after f.held f.lists f.store least.by_most early dropped (sliced (f.held).sliced)
    where
      early : (x : Kept) → Contains (drop f.without m.kept) x → x.time < time → is_settled d (without_first f.without m) x ≡ true
      early x c l =
          ⊎_elim
          (λ bare. absurd (none_in_nil x (subst (λ ks. Contains ks x) (sym (f.held).tuples ∙ ap joined bare) c)))
          (λ up. up.before x c l)
          bare_or_settled

  pub aligned : IsAligned s.slices time
  aligned =
      ⊎_elim
      (λ bare. subst (λ ss. IsAligned ss time) (sym bare) (All-nil (λ run. (last_time run < time) ⊎ (time ≤ first_time run))))
      (λ up. parts_where_settled d m f.without time s f.held f.store up)
      bare_or_settled

  -- no tuple is settled in what is left from the time on
  pub open_left : (after : Stored) → after.slices ≡ slices_from time s.slices → NoneSettled d m after
  open_left after left =
      ⊎_elim
      (λ bare. none_in_bare d m after (left ∙ ap (slices_from time) bare))
      (λ up. open_from d m f.without time s after f.held f.store up left)
      bare_or_settled

module _ {P : Type 0} (stands : Standing P) (d : Definitions) where
  pub fits_purged : (kept : List Kept) (marks : List ℕ) (water next n time more : ℕ) (s after : Stored) (later : List P) → IsWater water → AreLists (moment kept marks water) next → IsPurge d (moment kept marks water) n s time more after → after.marks ≡ marks_left time s.marks
      → AreStanding stands d (moment kept marks water) more after later → (all_count_events d → s.slices ≡ []) → NoneSettled d (moment kept marks water) after → Fits stands d kept marks water next after later
  fits_purged kept marks water next n time more s after later is lists p left stood bare open_ = record {
    known = record { without = more; lists = lists; store = store_purged d (moment kept marks water) n next time more s after p lists left; held = p.still_held; stood = stood; bare = λ all. p.slices ∙ ap (slices_from time) (bare all) };
    none_settled = open_;
    clock = inl is;
  }

-- ---- what a move changes
pub move_is : (d : Definitions) (key : List ℕ) (kept : List Kept) (marks : List ℕ) (old new next : ℕ) → All (λ w. IsKindWithin w.kind) d.windows → AreLists (moment kept marks old) next → old ≤ new
    → changes_by_move d key kept marks old new ≡ flat_map (completions key (moment kept marks old) new) (enumerate_from 0 d.windows)
move_is d key kept marks old new next kinds a l = changes_at_water d.windows key kept marks old new kinds (a.kept).in_order l

-- nothing, where there is no tuple
pub nothing_moves : (d : Definitions) (key : List ℕ) (kept : List Kept) (marks : List ℕ) (old new next : ℕ) → All (λ w. IsKindWithin w.kind) d.windows → AreLists (moment kept marks old) next → old ≤ new → kept ≡ []
    → changes_by_move d key kept marks old new ≡ []
nothing_moves d key kept marks old new next kinds a l none =
    move_is d key kept marks old new next kinds a l
    ∙ flat_map_none (completions key (moment kept marks old) new) (enumerate_from 0 d.windows)
    (λ w c. ap (λ is. map (λ i. New (row_of w.0 key (w.1).func i)) (filter (becomes_complete old new) is)) (ap (λ ks. instances_of (w.1).kind ks marks) none ∙ no_instances (w.1).kind marks))
