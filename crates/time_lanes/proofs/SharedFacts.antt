-- What the complete intervals that hold a late tuple share, from where the first one starts.
use Rattle.std.proofs.Common.{◌≡◌, ◌∙◌, ℕ, ◌+◌, ◌-◌, ◌*◌, ◌<◌, ◌≤◌, length, get_or, ap, sym, arith, inl, inr}
use Rattle.std.specs.Prelude.{◌⊎◌}
use Rattle.std.proofs.lemmas.Bool.{cases_lt}
use Rattle.stream_base.specs.declared.kind.Kind.{Kind}
use Rattle.slice_lists.specs.Runs.{runs_within}
use Rattle.stream_base.specs.Kinds.{length_of, slide_of}
use Rattle.agg_store.specs.Stored.{Stored}
use Rattle.time_lanes.specs.declared.late.Complete.{Complete}
use Rattle.time_lanes.specs.declared.span.Span.{Span}
use Rattle.time_lanes.specs.Folds.{IsShared, slices_under}
use Rattle.time_lanes.specs.Told.{complete_starts, starts_from}
use Rattle.time_lanes.proofs.ToldFacts.{start_at, starts_length}
use Rattle.time_lanes.specs.Late.{complete_holding}
use Rattle.time_lanes.specs.Shared.{IsSharedAt, slices_holding}

pub shared_at : (kind : Kind) (time water : ℕ) (s : Stored) (span : Span) (complete : Complete) (each steps later : ℕ) → span.length ≡ length_of kind → span.slide ≡ slide_of kind
    → complete_starts span.length span.slide time water ≡ starts_from span.slide complete.first complete.count
    → ((k : ℕ) → k < complete.count → (complete.first + k) * span.slide ≤ time)
    → ((k : ℕ) → k < complete.count → time < (complete.first + k) * span.slide + span.length)
    → later ≤ steps + each * complete.count
    → IsShared span s.slices complete steps later
    → IsSharedAt kind time water s steps later
shared_at kind time water s span complete each steps later len slide starts begun holds within shared few = by (cases_lt 0 complete.count)
  where
    lows : complete_holding kind time water ≡ starts_from span.slide complete.first complete.count
    lows = sym (λ i. complete_starts (len i) (slide i) time water) ∙ starts

    number : length (complete_holding kind time water) ≡ complete.count
    number = ap length lows ∙ starts_length span.slide complete.first complete.count

    from_zero : (complete.first + 0) * span.slide ≡ complete.first * span.slide
    from_zero = ap (λ n. n * span.slide) (let e : complete.first + 0 ≡ complete.first = omega arith in e)

    under : 0 < complete.count → slices_holding kind time water s ≡ slices_under span s.slices complete
    under some =
        let low : get_or (complete_holding kind time water) 0 0 ≡ complete.first * span.slide = ap (λ l. get_or l 0 0) lows ∙ start_at span.slide complete.first complete.count 0 some ∙ from_zero in
        let last : get_or (complete_holding kind time water) (length (complete_holding kind time water) - 1) 0 ≡ (complete.first + (complete.count - 1)) * span.slide = (λ i. get_or (lows i) (number i - 1) 0) ∙ start_at span.slide complete.first complete.count (complete.count - 1) (omega arith) in
        λ i. runs_within (low i) (last i + sym len i) s.slices

    by : (0 < complete.count) ⊎ (complete.count ≤ 0) → later ≤ steps + length (slices_holding kind time water s) + 4 * length (complete_holding kind time water)
    by (inl some) =
        let same = ap length (under some) in
        omega (
          arith,
          same,
          number,
          shared (record {
            at_most = omega (arith, few.intervals, number);
            overlap = omega (arith, begun (complete.count - 1) (omega arith), holds 0 some, from_zero);
            few = omega (arith, few.slices, same, number);
          }),
        )
    by (inr none) =
        let z : complete.count ≡ 0 = omega arith in
        omega (arith, within, ap (λ n. each * n) z)
