-- The watermark is at most the final one.
use Rattle.std.proofs.Common.{◌≡◌, ◌≤◌, ℕ, Bool, true, false, cond, max, min, List, [], ◌∷◌, ◌++◌, map, filter, arith}
use Rattle.std.specs.Prelude.{◌==◌, fold}
use Rattle.std.specs.List.{All, range_with_len}
use Rattle.std.proofs.lemmas.Bool.Decides.{nat_tests}
use Rattle.std.proofs.lemmas.List.Elements.{All-head, All-tail, All-nil, All-push}
use Rattle.stream_base.specs.declared.limits.TheConstants.{FINAL, TIME_MAX}
use Rattle.stream_base.specs.declared.entry.Entry.{Entry}
use Rattle.stream_base.specs.declared.what.What.{What}
use Rattle.stream_base.specs.declared.what.What.TheVariants.{Tuple, Mark, Water, Idle, End}
use Rattle.stream_base.specs.Model.Journals.{is_entry_within}
use Rattle.stream_base.specs.Model.What.{water_time}
use Rattle.stream_base.specs.Model.Watermark.{all_ended, has_ended, is_awake, latest_water, least_or_zero, least_water, prefixes_from, source_water, water_of}

-- an entry within its limits has a time within the limit
time_within : (e : Entry) → is_entry_within e ≡ true → water_time e.what ≤ TIME_MAX
time_within e h = by e.what h
  where
    by : (w : What) → is_entry_within (record { source = e.source; what = w }) ≡ true → water_time w ≤ TIME_MAX
    by (Tuple key time value) h = omega arith
    by (Mark key time) h = omega arith
    by (Water time) h = grind (arith, nat_tests)
    by Idle h = omega arith
    by End h = omega arith

greatest_small : (own : Bool) (a b m : ℕ) → a ≤ m → b ≤ m → cond own (max a b) a ≤ m
greatest_small true a b m ha hb = omega arith
greatest_small false a b m ha hb = ha

latest_from : (s start : ℕ) (journal : List Entry) → start ≤ TIME_MAX → All (λ e. is_entry_within e ≡ true) journal → fold (λ latest e. cond (e.source == s) (max latest (water_time e.what)) latest) start journal ≤ TIME_MAX
latest_from s start [] h all = h
latest_from s start (e ∷ es) h all =
    latest_from s (cond (e.source == s) (max start (water_time e.what)) start) es
    (greatest_small (e.source == s) start (water_time e.what) TIME_MAX h (time_within e (All-head (λ x. is_entry_within x ≡ true) e es all)))
    (All-tail (λ x. is_entry_within x ≡ true) e es all)

source_at_most_final : (s : ℕ) (journal : List Entry) → All (λ e. is_entry_within e ≡ true) journal → source_water s journal ≤ FINAL
unfolding source_water
source_at_most_final s journal all = by (has_ended s journal) (latest_water s journal) (latest_from s 0 journal (omega arith) all)
  where
    by : (b : Bool) (latest : ℕ) → latest ≤ TIME_MAX → cond b FINAL latest ≤ FINAL
    by true latest h = omega arith
    by false latest h = omega arith

min_below : (start : ℕ) (ws : List ℕ) → fold min start ws ≤ start
min_below start [] = omega arith
min_below start (w ∷ ws) = omega (arith, min_below (min start w) ws)

least_at_most_final : (sources : ℕ) (journal : List Entry) → All (λ e. is_entry_within e ≡ true) journal → least_water sources journal ≤ FINAL
unfolding least_water
least_at_most_final sources journal all = by (all_ended sources journal) (filter (is_awake journal) (range_with_len 0 sources))
  where
    by : (b : Bool) (ks : List ℕ) → cond b FINAL (least_or_zero (map (λ s. source_water s journal) ks)) ≤ FINAL
    by true ks = omega arith
    by false [] = omega arith
    by false (k ∷ ks) = omega (arith, min_below (source_water k journal) (map (λ s. source_water s journal) ks), source_at_most_final k journal all)

-- over the prefixes of a journal, one after another
greatest_at_most : (sources top : ℕ) (before es : List Entry) → top ≤ FINAL → All (λ e. is_entry_within e ≡ true) before → All (λ e. is_entry_within e ≡ true) es → fold max top (map (least_water sources) (prefixes_from before es)) ≤ FINAL
greatest_at_most sources top before [] t b all = omega (arith, least_at_most_final sources before b)
greatest_at_most sources top before (e ∷ es) t b all =
    greatest_at_most sources (max top (least_water sources before)) (before ++ e ∷ []) es
    (omega (arith, least_at_most_final sources before b))
    (All-push (λ x. is_entry_within x ≡ true) before e b (All-head (λ x. is_entry_within x ≡ true) e es all))
    (All-tail (λ x. is_entry_within x ≡ true) e es all)

pub water_at_most_final : (sources : ℕ) (journal : List Entry) → All (λ e. is_entry_within e ≡ true) journal → water_of sources journal ≤ FINAL
unfolding water_of
water_at_most_final sources journal all = greatest_at_most sources 0 [] journal (omega arith) (All-nil (λ e. is_entry_within e ≡ true)) all
