-- What a window without a lane takes up: no slices.
use Rattle.std.proofs.Common.{◌≡◌, ◌∙◌, ℕ, ◌+◌, ◌-◌, ◌*◌, ◌/◌, false, cond, List, [], ◌∷◌, length, ap, sym, refl, arith}
use Rattle.std.proofs.lemmas.Bool.{false≢true, le-ltb}
use Rattle.stream_base.specs.declared.kept.Kept.{Kept}
use Rattle.stream_base.specs.declared.kind.Kind.{Kind}
use Rattle.stream_base.specs.declared.kind.Kind.TheVariants.{Tumbling, Sliding}
use Rattle.stream_base.specs.Kinds.{is_timed, length_of}
use Rattle.stream_base.specs.Model.Windows.{first_time}
use Rattle.slice_lists.specs.Runs.{runs_within}
use Rattle.agg_store.specs.Stored.{Stored}
use Rattle.time_lanes.specs.Moves.{slices_between, slices_in_last}
use Rattle.time_lanes.specs.Spans.{last_end, last_end_by}
use Rattle.time_lanes.proofs.Ranges.{behind_it, skipped}

times_zero : (n : ℕ) → n * 0 + 0 ≡ 0
times_zero n = omega arith

-- its intervals have no length
ends_nowhere : (water : ℕ) → last_end 0 0 water ≡ 0
ends_nowhere water = ap (λ b. cond b 0 ((water - 0) / 0 * 0 + 0)) (le-ltb water 0 (omega arith)) ∙ times_zero ((water - 0) / 0)

pub no_end : (kind : Kind) (water : ℕ) → is_timed kind ≡ false → last_end_by kind water ≡ 0
no_end (Tumbling length) water t = absurd (false≢true (sym t))
no_end (Sliding length slide) water t = absurd (false≢true (sym t))
no_end kind water t = ends_nowhere water

-- no slice begins before 0
none_before : (low : ℕ) (runs : List (List Kept)) → runs_within low 0 runs ≡ []
none_before low [] = refl
none_before low (run ∷ runs) = skipped low 0 run runs (behind_it low 0 (first_time run) (omega arith)) ∙ none_before low runs

pub none_between : (kind : Kind) (s : Stored) (old new : ℕ) → is_timed kind ≡ false → length (slices_between kind s old new) ≡ 0
none_between kind s old new t = ap (λ e. length (runs_within (last_end_by kind old) e s.slices)) (no_end kind new t) ∙ ap length (none_before (last_end_by kind old) s.slices)

pub none_in_last : (kind : Kind) (s : Stored) (water : ℕ) → is_timed kind ≡ false → length (slices_in_last kind s water) ≡ 0
none_in_last kind s water t =
    ap (λ e. length (runs_within (last_end_by kind water - length_of kind) e s.slices)) (no_end kind water t)
    ∙ ap length (none_before (last_end_by kind water - length_of kind) s.slices)
