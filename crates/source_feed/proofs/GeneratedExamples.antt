-- What the definitions of the generated input give at worked examples.
use Rattle.std.proofs.Common.{◌≡◌, [], ◌∷◌, refl}
use Rattle.std.specs.Fmt.{digits}
use Rattle.std.specs.List.{range_with_len}
use Rattle.std.specs.Prelude.{codes, pos, negsuc, take, drop}
use Rattle.stream_base.specs.declared.what.What.TheVariants.{Tuple, Mark, Water, End}
use Rattle.source_feed.specs.Generated.{made_entries, made_events, made_sources, state_after, told_at, told_of_indices}
use Rattle.source_feed.specs.Stream.{entry_of}

-- one tuple, worked out by hand: the first state is the increment, so 167951807 is drawn
first_state : state_after 0 1 ≡ 1442695040888963407
unfolding state_after
first_state = refl

one_tuple : made_entries 0 1 1 0 ≡ entry_of 0 (Tuple (codes "k25") 15 (pos 742)) ∷ entry_of 0 End ∷ []
unfolding state_after told_of_indices digits
one_tuple = refl

-- two sources take turns
two_sources : made_sources 0 4 2
    ≡ (entry_of 0 (Tuple (codes "k25") 15 (pos 742)) ∷ entry_of 0 (Tuple (codes "k70") 33 (negsuc 480)) ∷ entry_of 0 End ∷ [])
    ∷ (entry_of 1 (Tuple (codes "k64") 24 (negsuc 44)) ∷ entry_of 1 (Tuple (codes "k94") 52 (pos 416)) ∷ entry_of 1 End ∷ [])
    ∷ []
unfolding state_after told_of_indices digits
two_sources = refl

-- from another seed; a key has one digit or two, and the second eight is shuffled
third_to_tenth : drop 2 (made_events 7 10 1 0)
    ≡ Tuple (codes "k13") 33 (pos 739) ∷ Tuple (codes "k74") 49 (pos 123) ∷ Tuple (codes "k57") 73 (negsuc 20) ∷ Tuple (codes "k71") 83 (pos 292)
    ∷ Tuple (codes "k3") 104 (pos 343) ∷ Tuple (codes "k6") 116 (negsuc 616) ∷ Tuple (codes "k11") 155 (negsuc 88) ∷ Tuple (codes "k5") 134 (pos 258) ∷ End ∷ []
unfolding state_after told_of_indices digits
third_to_tenth = refl

-- the fiftieth tuple of a source is followed by a watermark, 32 behind the greatest time
made_watermark : take 3 (drop 49 (made_events 1 64 1 0))
    ≡ Tuple (codes "k46") 882 (pos 736) ∷ Water 850 ∷ Tuple (codes "k56") 842 (pos 520) ∷ []
unfolding state_after told_of_indices digits
made_watermark = refl

-- the tuple of index 63 is followed by a mark
mark_and_end : drop 64 (made_events 1 64 1 0) ≡ Tuple (codes "k31") 901 (negsuc 654) ∷ Mark (codes "k31") 901 ∷ End ∷ []
unfolding state_after told_of_indices digits
mark_and_end = refl

-- where both follow a tuple, the mark comes first
mark_before_watermark : told_at 1 (range_with_len 14 49) 63 ≡ Tuple (codes "k31") 901 (negsuc 654) ∷ Mark (codes "k31") 901 ∷ Water 982 ∷ []
unfolding state_after digits
mark_before_watermark = refl
