-- What a source tells of its events, by what it remembers and by all that it told before.
use Rattle.std.proofs.Common.{◌≡◌, ◌∙◌, ◌+◌, ◌-◌, ◌++◌, ◌&&◌, ℕ, List, [], ◌∷◌, length, Bool, true, false, not, refl, sym, ap, subst, arith, length-append, append_assoc, append-nil}
use Rattle.std.specs.Prelude.{max, Some, None, filter, if◌then◌else◌}
use Rattle.std.proofs.lemmas.List.Sums.{fold-append}
use Rattle.std.proofs.lemmas.List.Elements.{filter-append}
use Rattle.stream_base.specs.declared.what.What.{What}
use Rattle.stream_base.specs.declared.what.What.TheVariants.{Tuple, Mark, Water, Idle, End}
use Rattle.stream_base.specs.Model.What.{is_idle_word, is_progress, water_time}
use Rattle.source_feed.specs.Pace.{as_waters, made_by, paced, paced_over, stream_from, told_by, told_from, waking_by}
use Rattle.source_feed.specs.Events.{Events, greatest_time, is_made, is_tuple, made_after, stream_by, told_of, told_water, tells_idle, tuple_count, tuple_time, waking_before, with_watermarks}
use Rattle.source_feed.specs.declared.pace.Pace.{Pace}

count_push : (told : List What) (what : What) → tuple_count (told ++ what ∷ []) ≡ tuple_count told + length (filter is_tuple (what ∷ []))
count_push told what = rw (filter-append is_tuple told (what ∷ [])) (length-append (filter is_tuple told) (filter is_tuple (what ∷ [])))

greatest_push : (told : List What) (what : What) → greatest_time (told ++ what ∷ []) ≡ max (greatest_time told) (tuple_time what)
greatest_push told what = fold-append (λ greatest what. max greatest (tuple_time what)) 0 told (what ∷ [])

idle_push : (told : List What) (what : What) → tells_idle (told ++ what ∷ []) ≡ (if is_progress what then is_idle_word what else tells_idle told)
idle_push told what = fold-append (λ idle what. if is_progress what then is_idle_word what else idle) false told (what ∷ [])

water_push : (told : List What) (what : What) → told_water (told ++ what ∷ []) ≡ max (told_water told) (water_time what)
water_push told what = fold-append (λ greatest what. max greatest (water_time what)) 0 told (what ∷ [])

-- a source remembers all that it told
pub record Remembers (every disorder : ℕ) (pace : Pace) (told : List What) : Type 0 where
  pub every_is : pace.every ≡ every
  pub disorder_is : pace.disorder ≡ disorder
  pub tuples : pace.tuples ≡ tuple_count told
  pub greatest : pace.greatest ≡ greatest_time told
  pub idle : pace.idle ≡ tells_idle told
  pub water : pace.water ≡ told_water told

remembers_one : (every disorder : ℕ) (pace : Pace) (told : List What) (what : What) → Remembers every disorder pace told → Remembers every disorder (paced pace what) (told ++ what ∷ [])
remembers_one every disorder pace told (Tuple key time value) h = record {
  every_is = h.every_is;
  disorder_is = h.disorder_is;
  tuples = rw (count_push told (Tuple key time value), h.tuples) refl;
  greatest = rw (greatest_push told (Tuple key time value), h.greatest) refl;
  idle = rw (idle_push told (Tuple key time value), h.idle) refl;
  water = rw (water_push told (Tuple key time value), h.water) (omega arith);
}
remembers_one every disorder pace told (Mark key time) h = record {
  every_is = h.every_is;
  disorder_is = h.disorder_is;
  tuples = rw (count_push told (Mark key time), h.tuples) (omega arith);
  greatest = rw (greatest_push told (Mark key time), h.greatest) (omega arith);
  idle = rw (idle_push told (Mark key time), h.idle) refl;
  water = rw (water_push told (Mark key time), h.water) (omega arith);
}
remembers_one every disorder pace told (Water time) h = record {
  every_is = h.every_is;
  disorder_is = h.disorder_is;
  tuples = rw (count_push told (Water time), h.tuples) (omega arith);
  greatest = rw (greatest_push told (Water time), h.greatest) (omega arith);
  idle = rw (idle_push told (Water time)) refl;
  water = rw (water_push told (Water time), h.water) refl;
}
remembers_one every disorder pace told Idle h = record {
  every_is = h.every_is;
  disorder_is = h.disorder_is;
  tuples = rw (count_push told Idle, h.tuples) (omega arith);
  greatest = rw (greatest_push told Idle, h.greatest) (omega arith);
  idle = rw (idle_push told Idle) refl;
  water = rw (water_push told Idle, h.water) (omega arith);
}
remembers_one every disorder pace told End h = record {
  every_is = h.every_is;
  disorder_is = h.disorder_is;
  tuples = rw (count_push told End, h.tuples) (omega arith);
  greatest = rw (greatest_push told End, h.greatest) (omega arith);
  idle = rw (idle_push told End) refl;
  water = rw (water_push told End, h.water) (omega arith);
}

remembers_more : (every disorder : ℕ) (pace : Pace) (told more : List What) → Remembers every disorder pace told → Remembers every disorder (paced_over pace more) (told ++ more)
remembers_more every disorder pace told [] h = subst (Remembers every disorder pace) (sym (append-nil told)) h
remembers_more every disorder pace told (what ∷ more) h =
    subst (Remembers every disorder (paced_over (paced pace what) more)) (append_assoc told (what ∷ []) more)
    (remembers_more every disorder (paced pace what) (told ++ what ∷ []) more (remembers_one every disorder pace told what h))

-- so what it tells of an event is what the definition says
waking_alike : (every disorder : ℕ) (pace : Pace) (told : List What) (what : What) → Remembers every disorder pace told → waking_before told what ≡ as_waters (waking_by pace what)
waking_alike every disorder pace told what h = rw (← h.idle, ← h.water) (either (pace.idle && not (is_progress what)))
  where
    either : (b : Bool) → (if b then Water pace.water ∷ [] else []) ≡ as_waters (if b then Some pace.water else None)
    either true = refl
    either false = refl

made_alike : (every disorder : ℕ) (pace : Pace) (told : List What) (what : What) → Remembers every disorder pace (told ++ what ∷ []) → made_after every disorder told what ≡ as_waters (made_by pace what)
made_alike every disorder pace told (Tuple key time value) h =
    rw (← h.tuples, ← h.greatest, ← h.every_is, ← h.disorder_is) (either (is_made pace.every pace.tuples))
  where
    either : (b : Bool) → (if b then Water (pace.greatest - pace.disorder) ∷ [] else []) ≡ as_waters (if b then Some (pace.greatest - pace.disorder) else None)
    either true = refl
    either false = refl
made_alike every disorder pace told (Mark key time) h = refl
made_alike every disorder pace told (Water time) h = refl
made_alike every disorder pace told Idle h = refl
made_alike every disorder pace told End h = refl

told_alike : (every disorder : ℕ) (pace : Pace) (told : List What) (what : What) → Remembers every disorder pace told → told_of every disorder told what ≡ told_by pace what
told_alike every disorder pace told what h =
    let waking = as_waters (waking_by pace what) in
    let woken = remembers_more every disorder pace told waking h in
    ap (λ (w : List What). w ++ what ∷ made_after every disorder (told ++ w) what) (waking_alike every disorder pace told what h)
    ∙ ap (λ (m : List What). waking ++ what ∷ m) (made_alike every disorder (paced (paced_over pace waking) what) (told ++ waking) what (remembers_one every disorder (paced_over pace waking) (told ++ waking) what woken))

alike : (every disorder : ℕ) (pace : Pace) (told events : List What) → Remembers every disorder pace told → with_watermarks every disorder told events ≡ told_from pace events
unfolding with_watermarks told_from
alike every disorder pace told [] h = refl
alike every disorder pace told (what ∷ later) h =
    ap (λ (more : List What). more ++ with_watermarks every disorder (told ++ more) later) (told_alike every disorder pace told what h)
    ∙ ap (λ (rest : List What). told_by pace what ++ rest) (alike every disorder (paced_over pace (told_by pace what)) (told ++ told_by pace what) later (remembers_more every disorder pace told (told_by pace what) h))

-- at the start it told nothing
pub stream_alike : (source every disorder : ℕ) (s : Events)
    → stream_from (record { source = source; every = every; disorder = disorder; tuples = 0; greatest = 0; idle = false; water = 0 }) s ≡ stream_by source every disorder s
stream_alike source every disorder s =
    rw (alike every disorder (record { source = source; every = every; disorder = disorder; tuples = 0; greatest = 0; idle = false; water = 0 }) [] s.events (record { every_is = refl; disorder_is = refl; tuples = refl; greatest = refl; idle = refl; water = refl })) refl
