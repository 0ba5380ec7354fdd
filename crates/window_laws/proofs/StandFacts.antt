-- What stands stays where a tuple or a mark comes after the watermark, by the lists of instances that each kind of window makes.
use Rattle.std.proofs.Common.{◌≡◌, ◌∙◌, ℕ, ◌+◌, ◌-◌, ◌*◌, ◌/◌, ◌<◌, ◌≤◌, true, false, List, [], ◌∷◌, ◌++◌, take, drop, map, ap, sym, subst, arith}
use Rattle.std.specs.Prelude.{nat_le, nat_lt}
use Rattle.std.specs.BTreeSet.{insert_key}
use Rattle.std.specs.List.{All, Contains, filter, flat_map, range_with_len}
use Rattle.std.specs.Ordering.{nat_cmp}
use Rattle.std.proofs.Math.Nat.{le-div_iff_mul-le}
use Rattle.std.proofs.lemmas.Bool.{lt-leb, ltb-true, and_parts}
use Rattle.std.proofs.lemmas.List.Elements.{All-append, All-cons, All-filter, All-head, All-nil, All-weaker, filter-append}
use Rattle.stream_base.specs.declared.kept.Kept.{Kept}
use Rattle.stream_base.specs.declared.kind.Kind.TheVariants.{Events}
use Rattle.stream_base.specs.declared.limits.TheConstants.{FINAL}
use Rattle.stream_base.specs.Laws.{TimesDoNotFall}
use Rattle.stream_base.specs.Model.Journal.{put_in_order}
use Rattle.stream_base.specs.Model.Windows.{Instance, instances_of, interval, is_complete, is_selecting, is_within, last_time, ranks, sessions, standing_of, stretches, within}
use Rattle.stream_base.proofs.Members.{Contains-insert_new, filter_members, map_same, range_members}
use Rattle.window_laws.specs.Counts.{upper}
use Rattle.window_laws.specs.Sessions.{IsPutInSessions, joined_session}
use Rattle.window_laws.specs.Stretches.{if_selecting}
use Rattle.window_laws.proofs.CountFacts.{same_chosen, standing_of_counts, upper_put_passes, upper_rises}
use Rattle.window_laws.proofs.InstanceFacts.{session_bounds_are_ends, sessions_select}
use Rattle.stream_base.proofs.Filters.{filter_none}
use Rattle.slice_lists.proofs.Order.{All-split}
use Rattle.window_laws.proofs.SessionFacts.{put_times, sessions_after_put}
use Rattle.window_laws.proofs.StretchFacts.{stretches_after_mark, stretches_after_put}

-- what isn't complete in the middle doesn't count
pub middle_open : (water : ℕ) (front mid back : List Instance) → All (λ (i : Instance). water < i.bound) mid → filter (is_complete water) (front ++ (mid ++ back)) ≡ filter (is_complete water) front ++ filter (is_complete water) back
middle_open water front mid back a =
    filter-append (is_complete water) front (mid ++ back)
    ∙ ap (λ l. filter (is_complete water) front ++ l)
    (filter-append (is_complete water) mid back
    ∙ ap (λ l. l ++ filter (is_complete water) back) (filter_none (is_complete water) mid (All-weaker (λ (i : Instance). water < i.bound) (λ i. is_complete water i ≡ false) (λ i l. lt-leb i.bound water l) mid a)))

-- both parts of the middle law at once
pub same_around : (water : ℕ) (old new front mid more back : List Instance) → old ≡ front ++ (mid ++ back) → new ≡ front ++ (more ++ back) → All (λ (i : Instance). water < i.bound) mid → All (λ (i : Instance). water < i.bound) more → filter (is_complete water) new ≡ filter (is_complete water) old
same_around water old new front mid more back was is a b =
    ap (filter (is_complete water)) is ∙ middle_open water front more back b
    ∙ sym (ap (filter (is_complete water)) was ∙ middle_open water front mid back a)

-- a joined session ends after the tuple
pub joined_ends : (gap : ℕ) (kept : List Kept) (x : Kept) → 1 ≤ gap → TimesDoNotFall kept → (p : IsPutInSessions gap x (sessions gap kept) (sessions gap (put_in_order kept x))) → x.time < (joined_session gap p.near x).high
joined_ends gap kept x some h p =
    let one : Instance = joined_session gap p.near x in
    let all : All (λ (i : Instance). i.chosen ≡ within i.low i.high (put_in_order kept x)) (sessions gap (put_in_order kept x)) = sessions_select gap (put_in_order kept x) some (put_times kept x h) in
    let here : one.chosen ≡ within one.low one.high (put_in_order kept x) = All-head (λ (i : Instance). i.chosen ≡ within i.low i.high (put_in_order kept x)) one p.back (All-split (λ (i : Instance). i.chosen ≡ within i.low i.high (put_in_order kept x)) p.front (one ∷ p.back) (subst (All (λ (i : Instance). i.chosen ≡ within i.low i.high (put_in_order kept x))) p.is all)).1 in
    let c : Contains one.chosen x = Contains-insert_new (flat_map (λ (i : Instance). i.chosen) p.near) _ x in
    let m : Contains (put_in_order kept x) x × (is_within one.low one.high x ≡ true) = filter_members (is_within one.low one.high) (put_in_order kept x) x (subst (λ l. Contains l x) here c) in
    ltb-true x.time one.high (and_parts (nat_le one.low x.time) (nat_lt x.time one.high) m.1).1

pub sessions_stand : (gap : ℕ) (kept : List Kept) (x : Kept) (water : ℕ) → 1 ≤ gap → TimesDoNotFall kept → water ≤ x.time → filter (is_complete water) (sessions gap (put_in_order kept x)) ≡ filter (is_complete water) (sessions gap kept)
unfolding instances_of
sessions_stand gap kept x water some h l =
    let p = sessions_after_put gap kept x some h in
    same_around water (sessions gap kept) (sessions gap (put_in_order kept x)) p.front p.near (joined_session gap p.near x ∷ []) p.back p.was p.is
    (bounds p.near (All-split (λ (i : Instance). i.bound ≡ i.high) p.near p.back (All-split (λ (i : Instance). i.bound ≡ i.high) p.front (p.near ++ p.back) (subst (All (λ (i : Instance). i.bound ≡ i.high)) p.was (session_bounds_are_ends gap kept))).1).0 p.end_near)
    (All-cons (λ (i : Instance). water < i.bound) (joined_session gap p.near x) [] (omega (arith, joined_ends gap kept x some h p)) (All-nil (λ (i : Instance). water < i.bound)))
  where
    bounds : (is : List Instance) → All (λ (i : Instance). i.bound ≡ i.high) is → All (λ (i : Instance). x.time < i.high) is → All (λ (i : Instance). water < i.bound) is
    bounds is a b = λ k d m. omega (arith, a k d m, b k d m)

pub open_interval : (low high : ℕ) (kept : List Kept) (water : ℕ) → water < high → All (λ (i : Instance). water < i.bound) (if_selecting low high kept)
open_interval low high kept water l =
    All-filter is_selecting (λ i. water < i.bound) (interval low high kept ∷ []) (All-cons (λ (i : Instance). water < i.bound) (interval low high kept) [] l (All-nil (λ (i : Instance). water < i.bound)))

pub stretches_stand : (marks : List ℕ) (kept : List Kept) (x : Kept) (water : ℕ) → x.time < FINAL → water ≤ x.time → filter (is_complete water) (stretches marks (put_in_order kept x)) ≡ filter (is_complete water) (stretches marks kept)
stretches_stand marks kept x water f l =
    let p = stretches_after_put marks kept x f in
    same_around water (stretches marks kept) (stretches marks (put_in_order kept x)) p.front (if_selecting p.low p.high kept) (interval p.low p.high (put_in_order kept x) ∷ []) p.back p.was p.is
    (open_interval p.low p.high kept water (omega (arith, p.ends)))
    (All-cons (λ (i : Instance). water < i.bound) (interval p.low p.high (put_in_order kept x)) [] (omega (arith, p.ends)) (All-nil (λ (i : Instance). water < i.bound)))

pub marked_stand : (marks : List ℕ) (kept : List Kept) (t water : ℕ) → t < FINAL → water < t → filter (is_complete water) (stretches (insert_key nat_cmp marks t) kept) ≡ filter (is_complete water) (stretches marks kept)
marked_stand marks kept t water f l =
    let p = stretches_after_mark marks kept t f in
    same_around water (stretches marks kept) (stretches (insert_key nat_cmp marks t) kept) p.front (if_selecting p.low p.high kept) (if_selecting p.low t kept ++ if_selecting t p.high kept) p.back p.was p.is
    (open_interval p.low p.high kept water (omega (arith, p.ends)))
    (All-append (λ (i : Instance). water < i.bound) (if_selecting p.low t kept) (if_selecting t p.high kept) (open_interval p.low t kept water l) (open_interval t p.high kept water (omega (arith, p.ends))))

pub counts_stand : (count water : ℕ) (kept : List Kept) (marks : List ℕ) (x : Kept) → 1 ≤ count → TimesDoNotFall kept → water < x.time → standing_of (Events count) (put_in_order kept x) marks water ≡ standing_of (Events count) kept marks water
counts_stand count water kept marks x some h l =
    standing_of_counts count water (put_in_order kept x) marks some (put_times kept x h)
    ∙ ap (λ n. map (ranks count (put_in_order kept x)) (range_with_len 0 (n / count - 0))) (upper_put_passes water kept x l)
    ∙ map_same (ranks count (put_in_order kept x)) (ranks count kept) (range_with_len 0 (upper water kept / count - 0)) (λ i c. same i (range_members 0 (upper water kept / count - 0) i c))
    ∙ sym (standing_of_counts count water kept marks some h)
  where
    same : (i : ℕ) → (0 ≤ i) × (i < 0 + (upper water kept / count - 0)) → ranks count (put_in_order kept x) i ≡ ranks count kept i
    same i r =
        let f : (i + 1) * count ≤ upper water kept = (le-div_iff_mul-le {k = count} {x = i + 1} {y = upper water kept} some).0 (omega (arith, r.1)) in
        let e : take count (drop (i * count) (put_in_order kept x)) ≡ take count (drop (i * count) kept) = same_chosen count water some kept h x i (omega (arith, upper_rises water x.time kept (omega arith))) in
        λ j. record { low = i * count; high = (i + 1) * count; bound = last_time (e j); chosen = e j }
