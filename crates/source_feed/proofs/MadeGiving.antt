-- What a call of `next` on the feed of a generated source gives, by its fields.
use Rattle.std.proofs.Common.{◌≡◌, ◌∙◌, ◌<◌, ◌^◌, ◌++◌, ℕ, Bool, true, false, List, [], ◌∷◌, map, Some, None, Ok, refl, sym, ap, subst, append_assoc}
use Rattle.std.specs.Prelude.{if◌then◌else◌}
use Rattle.std.specs.List.{list_all}
use Rattle.std.proofs.lemmas.List.{map-append}
use Rattle.stream_base.specs.declared.entry.Entry.{Entry}
use Rattle.stream_base.specs.declared.what.What.{What}
use Rattle.stream_base.specs.declared.what.What.TheVariants.{Mark, Water, End}
use Rattle.source_feed.specs.FeedFault.{refusal_of}
use Rattle.source_feed.specs.FeedState.{Closes}
use Rattle.source_feed.specs.Generated.{dealt, made_stream, mark_at, told_of_indices, water_at}
use Rattle.source_feed.specs.Generating.{TookTuple, indices_left, left_of, told_indices}
use Rattle.source_feed.specs.Gives.{Gives}
use Rattle.source_feed.specs.MadeFeedView.{WaitsBeforeEnd, rest_of, state_making}
use Rattle.source_feed.specs.Pace.{waiting_of}
use Rattle.source_feed.specs.RowsView.{AreInner}
use Rattle.source_feed.specs.Stream.{IsWhole, Stream, entry_of}
use Rattle.source_feed.specs.declared.generator.Generator.{Generator}
use Rattle.source_feed.specs.declared.waiting.Waiting.{Waiting}
use Rattle.source_feed.proofs.Closing.{both_inner, inner_waiting, is_inner_what, whole_from}
use Rattle.source_feed.proofs.Giving.{entry_within}

-- ---- no tuple, mark or watermark is an end
marks_inner : (b : Bool) (key : List ℕ) (time : ℕ) → list_all is_inner_what (if b then Mark key time ∷ [] else []) ≡ true
marks_inner true key time = refl
marks_inner false key time = refl

waters_inner : (b : Bool) (time : ℕ) → list_all is_inner_what (if b then Water time ∷ [] else []) ≡ true
waters_inner true time = refl
waters_inner false time = refl

pub told_inner : (seed : ℕ) (before indices : List ℕ) → list_all is_inner_what (told_of_indices seed before indices) ≡ true
unfolding told_of_indices
told_inner seed before [] = refl
told_inner seed before (index ∷ later) =
    both_inner (mark_at seed index ++ water_at seed (before ++ index ∷ [])) (told_of_indices seed (before ++ index ∷ []) later)
    (both_inner (mark_at seed index) (water_at seed (before ++ index ∷ [])) (marks_inner _ _ _) (waters_inner _ _))
    (told_inner seed (before ++ index ∷ []) later)

pub left_inner : (g : Generator) → list_all is_inner_what (left_of g) ≡ true
unfolding left_of
left_inner g = told_inner g.seed (told_indices g) (indices_left g)

-- what a feed tells closes with its end
pub closes_making : (g : Generator) (waiting : List What) (ended : Bool) → AreInner waiting → Closes (state_making g waiting ended)
closes_making g waiting true h = refl
closes_making g waiting false h =
    subst (λ (entries : List Entry). IsWhole g.source false (record { entries = entries; refusal = None }))
    (sym (map-append (entry_of g.source) waiting (left_of g ++ End ∷ [])))
    (whole_from g.source waiting (left_of g) None (inner_waiting waiting h) (left_inner g))

-- a stream that no refusal ends
abbrev only_entries : List Entry → Stream
only_entries entries = record { entries = entries; refusal = None }

-- at the start the whole stream is told
pub rest_at_start : (seed rows sources source : ℕ) (g : Generator) (waiting : List What) → g.source ≡ source → waiting ≡ []
    → left_of g ≡ told_of_indices seed [] (dealt sources source 0 rows) → rest_of g waiting false ≡ made_stream seed rows sources source
rest_at_start seed rows sources source g waiting s w l =
    ap (λ (w : List What). only_entries (map (entry_of g.source) (w ++ (left_of g ++ End ∷ [])))) w
    ∙ ap (λ (l : List What). only_entries (map (entry_of g.source) (l ++ End ∷ []))) l
    ∙ ap (λ s. only_entries (map (entry_of s) (told_of_indices seed [] (dealt sources source 0 rows) ++ End ∷ []))) s

-- ---- the answers
pub gives_waiting : (g : Generator) (waiting rest : List What) (what : What) (ended : Bool) → waiting ≡ what ∷ rest → g.source < 2 ^ 16 → AreInner waiting → WaitsBeforeEnd ended waiting
    → Gives refusal_of (state_making g waiting ended) (Ok (Some (entry_of g.source what))) (state_making g rest ended)
gives_waiting g waiting rest what true e small h w = absurd (let none : what ∷ rest ≡ [] = sym e ∙ w in cc)
gives_waiting g waiting rest what false e small h w =
    let inner : AreInner (what ∷ rest) = subst AreInner e h in
    record {
      source = refl;
      whole = closes_making g waiting false h;
      whole_after = closes_making g rest false inner.1;
      outcome = record {
        running = refl;
        unanswered = refl;
        own = refl;
        within = entry_within g.source what small inner.0.within;
        given = rw e refl;
        end = sym inner.0.inner;
        still_unanswered = refl;
      };
    }

pub gives_tuple : (g new : Generator) (waiting : List What) (first : What) (later : Waiting) → waiting ≡ [] → g.source < 2 ^ 16 → TookTuple g first later new
    → Gives refusal_of (state_making g waiting false) (Ok (Some (entry_of new.source first))) (state_making new (waiting_of later) false)
gives_tuple g new waiting first later e small took = subst (λ s. Gives refusal_of (state_making g waiting false) (Ok (Some (entry_of s first))) (state_making new (waiting_of later) false)) (sym took.source) (record {
  source = took.source;
  whole = closes_making g waiting false (subst AreInner (sym e) tt);
  whole_after = closes_making new (waiting_of later) false took.inner.1;
  outcome = record {
    running = refl;
    unanswered = refl;
    own = refl;
    within = entry_within g.source first small took.inner.0.within;
    given = ap (λ entries. Some (only_entries entries))
        (ap (λ s. entry_of g.source first ∷ map (entry_of s) (waiting_of later ++ (left_of new ++ End ∷ []))) took.source
        ∙ ap (map (entry_of g.source)) (sym (append_assoc (first ∷ waiting_of later) (left_of new) (End ∷ [])) ∙ ap (λ (l : List What). l ++ End ∷ []) (sym took.told))
        ∙ ap (λ (w : List What). map (entry_of g.source) (w ++ (left_of g ++ End ∷ []))) (sym e));
    end = sym took.inner.0.inner;
    still_unanswered = refl;
  };
})

pub gives_end : (g new : Generator) (waiting : List What) → waiting ≡ [] → g.source < 2 ^ 16 → new.source ≡ g.source → left_of g ≡ []
    → Gives refusal_of (state_making g waiting false) (Ok (Some (entry_of g.source End))) (state_making new waiting true)
gives_end g new waiting e small source left = record {
  source = source;
  whole = closes_making g waiting false (subst AreInner (sym e) tt);
  whole_after = refl;
  outcome = record {
    running = refl;
    unanswered = refl;
    own = refl;
    within = entry_within g.source End small refl;
    given = rw (e, left) refl;
    end = refl;
    still_unanswered = refl;
  };
}

pub gives_nothing : (g : Generator) (waiting : List What) → Gives refusal_of (state_making g waiting true) (Ok None) (state_making g waiting true)
gives_nothing g waiting = record {
  source = refl;
  whole = refl;
  whole_after = refl;
  outcome = record { ended = refl; unanswered = refl; kept = refl; still_ended = refl; still_unanswered = refl };
}
