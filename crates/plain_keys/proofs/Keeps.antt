-- What a key's state keeps, and what calls do to it.
use Rattle.std.proofs.Common.{◌≡◌, ◌∙◌, ℕ, ℤ, suc, ◌+◌, ◌<◌, ◌≤◌, Bool, true, false, cond, not, List, [], ◌∷◌, length, set, ap, sym, refl, subst, inl, inr, arith}
use Rattle.std.specs.Prelude.{◌≢◌, nat_lt}
use Rattle.std.specs.BTreeSet.{insert_key}
use Rattle.std.specs.List.{All, Contains, enumerate_from, flat_map, position_or_len}
use Rattle.std.specs.Ordering.{nat_cmp}
use Rattle.std.proofs.lemmas.Cmp.{nat_cmp_total}
use Rattle.std.proofs.lemmas.List.Elements.{All-contains, All-nil, All-weaker}
use Rattle.std.proofs.lemmas.Map.Keys.{IsStrictlyIncreasing-from_sorted, sorted_from_strictly_increasing}
use Rattle.std.proofs.lemmas.Map.Views.{All-insert_key}
use Rattle.stream_base.specs.declared.def.Def.{Def}
use Rattle.stream_base.specs.declared.kept.Kept.{Kept}
use Rattle.stream_base.specs.declared.limits.TheConstants.{FINAL, JOURNAL_MAX, TIME_MAX}
use Rattle.stream_base.specs.Laws.{completions}
use Rattle.stream_base.specs.Limits.{AreWithinLimits, Definitions}
use Rattle.stream_base.specs.Kinds.{IsKindWithin}
use Rattle.stream_base.specs.Model.Journal.{put_in_order}
use Rattle.stream_base.proofs.ChangeFacts.{changes_at_water, no_changes, standing_at_rises}
use Rattle.stream_base.proofs.EventOrder.{All_put, event_order_total, put_in_event_order, put_in_order_cons, times_do_not_fall}
use Rattle.stream_base.proofs.Rising.{none_in_nil, sorted_insert_key, sorted_nil}
use Rattle.stream_base.specs.Model.Moments.{IsWater, kept_at, moment}
use Rattle.window_laws.proofs.KeptFacts.{put_distinct}
use Rattle.stream_base.specs.Model.Windows.{Instance}
use Rattle.plain_windows.specs.Changing.{IsDue}
use Rattle.plain_windows.specs.Extents.{AreKeyLists}
use Rattle.plain_windows.proofs.Ahead.{completes_across, nothing_ahead, something_due}
use Rattle.key_windows.specs.Calls.{changes_by_mark, changes_by_move, changes_by_put}
use Rattle.key_windows.specs.Dues.{IsExact}
use Rattle.plain_keys.specs.States.{Fits, IsMarked, IsOfSame, HasOneMore, IsReadyToMove, IsState, State, stand_in}
use Rattle.plain_keys.proofs.Counting.{as_many, IsNew}
use Rattle.window_laws.proofs.KindFacts.{mark_after_stands, tuple_after_stands}
use Rattle.stream_base.proofs.KindFacts.{no_instances}

pub put_length : (kept : List Kept) (x : Kept) → length (put_in_order kept x) ≡ length kept + 1
put_length [] x = refl
put_length (y ∷ ys) x = ap length (put_in_order_cons y ys x) ∙ by (nat_lt x.time y.time) (put_length ys x)
  where
    by : (b : Bool) → length (put_in_order ys x) ≡ length ys + 1 → length (cond b (x ∷ y ∷ ys) (y ∷ put_in_order ys x)) ≡ length (y ∷ ys) + 1
    by true e = omega arith
    by false e = omega arith

-- a tuple of a new position and a time within the limits keeps the lists a key's
pub lists_put : (kept : List Kept) (marks : List ℕ) (x : Kept) → AreKeyLists kept marks → All (λ y. y.position < x.position) kept → x.time ≤ TIME_MAX → length kept < JOURNAL_MAX → AreKeyLists (put_in_order kept x) marks
lists_put kept marks x h below time few = record {
  in_order = put_in_event_order kept x h.in_order below;
  times = All_put (λ y. y.time ≤ TIME_MAX) kept x h.times time;
  few = omega (arith, put_length kept x);
  rising = h.rising;
  mark_times = h.mark_times;
}

pub state_put : (kept : List Kept) (marks : List ℕ) (next position time : ℕ) (value : ℤ) → IsState kept marks next → next ≤ position → position < JOURNAL_MAX → time ≤ TIME_MAX → IsState (put_in_order kept (kept_at position time value)) marks (position + 1)
state_put kept marks next position time value h later most within = record {
  lists = lists_put kept marks (kept_at position time value) h.lists (All-weaker (λ y. y.position < next) (λ y. y.position < position) (λ y l. omega arith) kept h.below) within (omega (arith, h.few));
  distinct = put_distinct kept (kept_at position time value) h.distinct (All-weaker (λ y. y.position < next) (λ y. position ≢ y.position) (λ y l e. omega arith) kept h.below);
  below = All_put (λ y. y.position < position + 1) kept (kept_at position time value) (All-weaker (λ y. y.position < next) (λ y. y.position < position + 1) (λ y l. omega arith) kept h.below) (omega arith);
  few = omega (arith, put_length kept (kept_at position time value), h.few);
  most = omega arith;
}

pub drawn_lists : (kept : List Kept) (marks : List ℕ) (next time : ℕ) → IsState kept marks next → next < JOURNAL_MAX → time ≤ TIME_MAX → AreKeyLists (put_in_order kept (stand_in time)) marks
drawn_lists kept marks next time h most within =
    lists_put kept marks (stand_in time) h.lists (All-weaker (λ y. y.position < next) (λ y. y.position < (stand_in time).position) (λ y l. omega arith) kept h.below) within (omega (arith, h.few))

pub lists_mark : (kept : List Kept) (marks : List ℕ) (m : ℕ) → AreKeyLists kept marks → m ≤ TIME_MAX → AreKeyLists kept (insert_key nat_cmp marks m)
lists_mark kept marks m h within = record {
  in_order = h.in_order;
  times = h.times;
  few = h.few;
  rising = IsStrictlyIncreasing-from_sorted (insert_key nat_cmp marks m) (sorted_insert_key nat_cmp_total m marks (sorted_from_strictly_increasing marks h.rising));
  mark_times = All-insert_key nat_cmp m (λ t. t ≤ TIME_MAX) marks h.mark_times within;
}

pub state_mark : (kept : List Kept) (marks : List ℕ) (next m : ℕ) → IsState kept marks next → m ≤ TIME_MAX → IsState kept (insert_key nat_cmp marks m) next
state_mark kept marks next m h within = record { lists = lists_mark kept marks m h.lists within; distinct = h.distinct; below = h.below; few = h.few; most = h.most }

-- ---- what calls change
stands : (d : Definitions) (kept : List Kept) (marks : List ℕ) (water : ℕ) → AreWithinLimits d → AreKeyLists kept marks → (def : Def) → Contains d.windows def → IsKindWithin def.kind
stands d kept marks water limits h def c = All-contains (λ w. IsKindWithin w.kind) d.windows def limits.kinds c

pub put_nothing : (d : Definitions) (key : List ℕ) (kept : List Kept) (marks : List ℕ) (water : ℕ) (x : Kept) → AreWithinLimits d → AreKeyLists kept marks → x.time ≤ TIME_MAX → water < x.time → changes_by_put d key kept marks water x ≡ []
put_nothing d key kept marks water x limits h within lt =
    no_changes d.windows key (moment kept marks water) (moment (put_in_order kept x) marks water)
    (standing_at_rises d.windows (moment kept marks water) limits.kinds (times_do_not_fall kept h.in_order))
    (λ def c. sym (tuple_after_stands def.kind kept marks water x (stands d kept marks water limits h def c) (times_do_not_fall kept h.in_order) (omega arith) lt))

pub mark_nothing : (d : Definitions) (key : List ℕ) (kept : List Kept) (marks : List ℕ) (water m : ℕ) → AreWithinLimits d → AreKeyLists kept marks → m ≤ TIME_MAX → water < m → changes_by_mark d key kept marks water m ≡ []
mark_nothing d key kept marks water m limits h within lt =
    no_changes d.windows key (moment kept marks water) (moment kept (insert_key nat_cmp marks m) water)
    (standing_at_rises d.windows (moment kept marks water) limits.kinds (times_do_not_fall kept h.in_order))
    (λ def c. sym (mark_after_stands def.kind kept marks water m (omega arith) lt))

pub move_is : (d : Definitions) (key : List ℕ) (kept : List Kept) (marks : List ℕ) (old new : ℕ) → AreWithinLimits d → AreKeyLists kept marks → old ≤ new
    → changes_by_move d key kept marks old new ≡ flat_map (completions key (moment kept marks old) new) (enumerate_from 0 d.windows)
move_is d key kept marks old new limits h le = changes_at_water d.windows key kept marks old new limits.kinds (times_do_not_fall kept h.in_order) le

-- ---- bounds ahead
pub due_same : (windows : List Def) (k k' : List Kept) (m m' : List ℕ) (water e e' : ℕ) → k' ≡ k → m' ≡ m → e' ≡ e → IsDue windows k m water e → IsDue windows k' m' water e'
due_same windows k k' m m' water e e' ks ms es h =
    subst (λ (l : List Kept). IsDue windows l m' water e') (sym ks)
    (subst (λ (l : List ℕ). IsDue windows k l water e') (sym ms) (subst (λ (n : ℕ). IsDue windows k m water n) (sym es) h))

-- with a tuple more in its lists, where the due number follows
pub fits_put : (d : Definitions) (kept : List Kept) (marks : List ℕ) (water time : ℕ) (s mid new : State) (x y : Kept) → Fits d kept marks water s → HasOneMore s x mid → IsOfSame mid new → x ≡ y → x.time ≡ time
    → ((k : List Kept) (z : Kept) → z.time ≡ time → mid.kept ≡ put_in_order k z → IsDue d.windows k mid.marks water mid.due → IsDue d.windows new.kept new.marks water new.due)
    → Fits d (put_in_order kept y) marks water new
fits_put d kept marks water time s mid new x y fits put same is at ahead =
    let k : mid.kept ≡ put_in_order kept x = put.kept ∙ ap (λ l. put_in_order l x) fits.0 in
    let m : mid.marks ≡ marks = put.marks ∙ fits.1 in
    let there : IsDue d.windows new.kept new.marks water new.due = ahead kept x at k (due_same d.windows kept kept marks mid.marks water s.due mid.due refl m put.due fits.2) in
    let ks : new.kept ≡ put_in_order kept y = same.kept ∙ k ∙ ap (put_in_order kept) is in
    let ms : new.marks ≡ marks = same.marks ∙ m in
    (ks, ms, due_same d.windows new.kept (put_in_order kept y) new.marks marks water new.due new.due (sym ks) (sym ms) refl there)

-- and with a mark more
pub fits_mark : (d : Definitions) (kept : List Kept) (marks : List ℕ) (water time : ℕ) (s mid new : State) → Fits d kept marks water s → IsMarked s time mid → IsOfSame mid new → IsDue d.windows new.kept new.marks water new.due
    → Fits d kept (insert_key nat_cmp marks time) water new
fits_mark d kept marks water time s mid new fits marked same ahead =
    let ks : new.kept ≡ kept = same.kept ∙ marked.kept ∙ fits.0 in
    let ms : new.marks ≡ insert_key nat_cmp marks time = same.marks ∙ marked.marks ∙ ap (λ l. insert_key nat_cmp l time) fits.1 in
    (ks, ms, due_same d.windows new.kept kept new.marks (insert_key nat_cmp marks time) water new.due new.due (sym ks) (sym ms) refl ahead)

pub none_ahead : (windows : List Def) (water due : ℕ) → FINAL < due → IsDue windows [] [] water due
none_ahead windows water due beyond = record {
  ahead = λ def i c d above. absurd (none_in_nil i (subst (λ (is : List Instance). Contains is i) (no_instances def.kind []) d));
  reached = λ final. absurd (omega (arith, beyond, final));
}

-- no move to below the due number changes anything
pub not_due : (d : Definitions) (key : List ℕ) (s : State) (kept : List Kept) (marks : List ℕ) (water new : ℕ) → AreWithinLimits d → AreKeyLists s.kept s.marks → Fits d kept marks water s → water ≤ new → new < s.due → changes_by_move d key kept marks water new ≡ []
not_due d key s kept marks water new limits lists fits le lt =
    move_is d key kept marks water new limits (subst (λ (ms : List ℕ). AreKeyLists kept ms) fits.1 (subst (λ (ks : List Kept). AreKeyLists ks s.marks) fits.0 lists)) le
    ∙ nothing_ahead d.windows key (moment kept marks water) s.due new fits.2.ahead lt

-- and up to there the state stands as it is
pub still_fits : (d : Definitions) (s : State) (kept : List Kept) (marks : List ℕ) (water new : ℕ) → Fits d kept marks water s → water ≤ new → new < s.due → Fits d kept marks new s
still_fits d s kept marks water new fits le lt = (
  fits.0,
  fits.1,
  record {
    ahead = λ def i c has above. fits.2.ahead def i c has (omega (arith, le, above));
    reached = λ final. (lt, (fits.2.reached final).1);
  },
)

-- a move to the due number changes something
pub is_due : (d : Definitions) (key : List ℕ) (s : State) (kept : List Kept) (marks : List ℕ) (water : ℕ) → AreWithinLimits d → AreKeyLists s.kept s.marks → Fits d kept marks water s → s.due ≤ FINAL
    → (water < s.due) × (changes_by_move d key kept marks water s.due ≢ [])
is_due d key s kept marks water limits lists fits final =
    let at = fits.2.reached final in (
      at.0,
      λ none. something_due d.windows key (moment kept marks water) s.due fits.2 final
          (sym (move_is d key kept marks water s.due limits (subst (λ (ms : List ℕ). AreKeyLists kept ms) fits.1 (subst (λ (ks : List Kept). AreKeyLists ks s.marks) fits.0 lists)) (omega (arith, at.0))) ∙ none),
    )

-- and from each watermark below it to each one from it on
pub is_exact : (d : Definitions) (key : List ℕ) (s : State) (kept : List Kept) (marks : List ℕ) (water : ℕ) → AreWithinLimits d → AreKeyLists s.kept s.marks → Fits d kept marks water s → IsExact d key kept marks water s.due
is_exact d key s kept marks water limits lists fits =
    let held : AreKeyLists kept marks = subst (λ (ms : List ℕ). AreKeyLists kept ms) fits.1 (subst (λ (ks : List Kept). AreKeyLists ks s.marks) fits.0 lists) in
    record {
      above = λ final. (fits.2.reached final).0;
      brings = λ old new is_old is_new rises early late.
          let final : s.due ≤ FINAL = omega (arith, late, at_most_final new is_new) in
          inl (λ none.
          completes_across d.windows key kept marks water old s.due new late
          (nothing_ahead d.windows key (moment kept marks water) s.due old fits.2.ahead early)
          (something_due d.windows key (moment kept marks water) s.due fits.2 final)
          (sym (move_is d key kept marks old new limits held (omega (arith, early, late))) ∙ none));
    }
  where
    at_most_final : (water : ℕ) → IsWater water → water ≤ FINAL
    at_most_final water (inl within) = omega (arith, within)
    at_most_final water (inr final) = omega (arith, final)

-- a move for which room was made brings as many completions as were promised
pub as_promised : (d : Definitions) (s : State) (old new : ℕ) (windows : List Def) (key : List ℕ) (kept : List Kept) (marks : List ℕ)
    → AreWithinLimits d → AreKeyLists kept marks → old ≤ new → windows ≡ d.windows → key ≡ s.key → kept ≡ s.kept → marks ≡ s.marks → IsReadyToMove d old new s → s.due ≤ new
    → length (flat_map (completions key (moment kept marks old) new) (enumerate_from 0 windows)) ≡ s.promise
as_promised d s old new windows key kept marks limits lists le ws keys ks ms ready reached =
    (λ i. length (flat_map (completions key (moment kept marks old) new) (enumerate_from 0 (ws i))))
    ∙ ap length (sym (move_is d key kept marks old new limits lists le))
    ∙ (λ i. length (changes_by_move d (keys i) (ks i) (ms i) old new))
    ∙ sym (ready.promised reached s.key)

is_new : (kept : List Kept) (next position : ℕ) → All (λ y. y.position < next) kept → next ≤ position → IsNew kept position
is_new kept next position h le z c e = let lt : z.position < next = All-contains (λ y. y.position < next) kept z h c in omega arith

pub put_count : (d : Definitions) (key : List ℕ) (kept : List Kept) (marks : List ℕ) (next position time : ℕ) (value : ℤ) (water : ℕ) → IsState kept marks next → next ≤ position → position < JOURNAL_MAX
    → length (changes_by_put d key kept marks water (kept_at position time value)) ≡ length (changes_by_put d key kept marks water (stand_in time))
put_count d key kept marks next position time value water h later most =
    as_many d.windows key kept marks water (stand_in time) (kept_at position time value) refl
    (is_new kept next (stand_in time).position h.below (omega (arith, h.most)))
    (is_new kept next position h.below later)

-- the tuple in the place of its stand-in
pub put_set : (kept : List Kept) (s x : Kept) → s.time ≡ x.time → set (put_in_order kept s) (position_or_len (λ (y : Kept). nat_lt x.time y.time) kept) x ≡ put_in_order kept x
put_set [] s x e = refl
put_set (y ∷ ys) s x e =
    (λ i. set (put_in_order_cons y ys s i) (position_or_len (λ (z : Kept). nat_lt x.time z.time) (y ∷ ys)) x)
    ∙ (λ i. set (cond (nat_lt (e i) y.time) (s ∷ y ∷ ys) (y ∷ put_in_order ys s)) (cond (not (nat_lt x.time y.time)) (1 + position_or_len (λ (z : Kept). nat_lt x.time z.time) ys) 0) x)
    ∙ by (nat_lt x.time y.time) (put_set ys s x e)
    ∙ sym (put_in_order_cons y ys x)
  where
    by : (b : Bool) → set (put_in_order ys s) (position_or_len (λ (z : Kept). nat_lt x.time z.time) ys) x ≡ put_in_order ys x
        → set (cond b (s ∷ y ∷ ys) (y ∷ put_in_order ys s)) (cond (not b) (1 + position_or_len (λ (z : Kept). nat_lt x.time z.time) ys) 0) x ≡ cond b (x ∷ y ∷ ys) (y ∷ put_in_order ys x)
    by true later = refl
    by false later =
        let next : 1 + position_or_len (λ (z : Kept). nat_lt x.time z.time) ys ≡ suc (position_or_len (λ (z : Kept). nat_lt x.time z.time) ys) = omega arith in
        ap (λ n. set (y ∷ put_in_order ys s) n x) next ∙ ap (λ ks. y ∷ ks) later

-- nothing yet
pub no_state : IsState [] [] 0
no_state = record {
  lists = record {
    in_order = sorted_nil event_order_total;
    times = All-nil (λ x. x.time ≤ TIME_MAX);
    few = omega arith;
    rising = IsStrictlyIncreasing-from_sorted [] (sorted_nil nat_cmp_total);
    mark_times = All-nil (λ m. m ≤ TIME_MAX);
  };
  distinct = λ i j d le l. absurd (omega arith);
  below = All-nil (λ x. x.position < 0);
  few = omega arith;
  most = omega arith;
}
