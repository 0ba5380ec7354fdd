-- What is known of the opens of a call whose sources were all given back.
use Rattle.std.proofs.Common.{◌≡◌, ◌≢◌, ◌∙◌, ◌<◌, ◌≤◌, ◌+◌, ◌-◌, ◌++◌, ℕ, List, [], ◌∷◌, length, take, get_or, Option, sym, subst, ap, refl, arith, inl, inr, ⊎_elim, length-append}
use Rattle.std.specs.Prelude.{IfSome}
use Rattle.std.proofs.lemmas.Bool.{cases_lt}
use Rattle.std.proofs.lemmas.List.{get_or-append-add, get_or-take, get_or_push, length-take-le, take_all}
use Rattle.stream_base.specs.Limits.{Definitions}
use Rattle.outside.specs.Outside.{Came, KeepsWord, Reads, back, refused}
use Rattle.source_feed.specs.FileFeedState.{FileFeedState}
use Rattle.emission_text.specs.declared.fault.Fault.{Fault}
use Rattle.run_inputs.specs.Causes.{IsUnopened, StopsAtSources}
use Rattle.run_inputs.specs.Opening.{AreOpened, AreUnread, StopsAtOpening}
use Rattle.run_inputs.specs.Outside.{Opens, ArePlaced, GivesBack, IsOver, OpensInOrder, Telling, opens_of}
use Rattle.run_inputs.proofs.Opened.{are_placed, more_in_order, some_of}

module _ {F E : Type 0} (asked : F → List (List ℕ)) (came : F → ℕ → Came) (told : F → Telling) (reads : E → Reads) (word : E → Option (List ℕ))
    (names : List (List ℕ)) (given : List E) (count : ℕ) (old mid new : F)
    (in_order : asked new ≡ asked old ++ take count names)
    (few : length given ≤ count)
    (placed : ArePlaced asked came told reads word (length (asked old)) given)
    (tells : (i : ℕ) (e : E) → i < length given → word (get_or given i e) ≡ told old (get_or names i []))
    (closed : GivesBack asked came told reads word given mid new) where
  at_name : (i : ℕ) → i < count → get_or (asked new) (length (asked old) + i) [] ≡ get_or names i []
  at_name i l = ap (λ (a : List (List ℕ)). get_or a (length (asked old) + i) []) in_order ∙ get_or-append-add (asked old) (take count names) i [] ∙ get_or-take count names i [] l

  -- each source that was given back is over
  over_given : (i : ℕ) → i < length given → IsOver (told old (get_or (asked new) (length (asked old) + i) [])) (came new (length (asked old) + i))
  over_given i l =
      let e = some_of given i l in
      subst (λ (c : Came). IsOver (told old (get_or (asked new) (length (asked old) + i) [])) c) (sym (closed.back_at (length (asked old)) placed i e l))
      (subst (λ (t : Option (List ℕ)). IfSome t (KeepsWord (reads (get_or given i e)))) (tells i e l ∙ ap (told old) (sym (at_name i (omega (arith, l, few))))) (closed.word_kept i e l))

  -- all opens are over, where those behind the sources that were given back are
  pub in_order_given : ((i : ℕ) → i < length (asked old) → came mid i ≡ came old i) → ((which : List ℕ) → told mid which ≡ told old which)
      → ((i : ℕ) → length given ≤ i → length (asked old) + i < length (asked new) → IsOver (told old (get_or (asked new) (length (asked old) + i) [])) (came new (length (asked old) + i)))
      → OpensInOrder asked came told names old new
  in_order_given earlier same behind = record {
    count = count;
    in_order = in_order;
    over = λ k least within.
        let i = k - length (asked old) in
        let is : length (asked old) + i ≡ k = omega (arith, least) in
        subst (λ (m : ℕ). IsOver (told old (get_or (asked new) m [])) (came new m)) is
        (⊎_elim (λ (less : i < length given). over_given i less) (λ past. behind i past (omega (arith, is, within))) (cases_lt i (length given)));
    earlier = λ i l. closed.others (length (asked old)) placed i (inl l) ∙ earlier i l;
    same = λ which. closed.same which ∙ same which;
  }

-- what became of the open of each source that was given back
pub came_back : {F E : Type 0} (asked : F → List (List ℕ)) (came : F → ℕ → Came) (told : F → Telling) (reads : E → Reads) (word : E → Option (List ℕ)) (given : List E) (count base : ℕ) (mid new : F) → length given ≡ count
    → ((i : ℕ) (e : E) → i < count → (reads (get_or given i e)).place ≡ base + i) → GivesBack asked came told reads word given mid new
    → (i : ℕ) (e : E) → i < count → came new (base + i) ≡ back (reads (get_or given i e))
came_back asked came told reads word given count base mid new many place closed i e l =
    closed.back_at base (λ j x m. place j x (omega (arith, m, many))) i e (omega (arith, l, many))

module _ {S F : Type 0} (asked : F → List (List ℕ)) (came : F → ℕ → Came) (told : F → Telling) (reads : S → Reads) (word : S → Option (List ℕ)) (names : List (List ℕ)) (d : Definitions) where
  -- a source can't be opened, and those before it are given back, unread
  module _ (feeds : List (FileFeedState S)) (old files now new : F) (i : ℕ) (name : List ℕ)
      (many : length feeds ≡ i) (inside : i < length names) (at : get_or names i [] ≡ name)
      (in_order : asked files ≡ asked old ++ take i names)
      (unread : AreUnread reads word (length (asked old)) (told old) names d feeds)
      (earlier : (k : ℕ) → k < length (asked old) → came files k ≡ came old k)
      (same : (which : List ℕ) → told files which ≡ told old which)
      (asked_more : asked now ≡ asked files ++ name ∷ [])
      (failed : came now (length (asked files)) ≡ refused)
      (others : (k : ℕ) → k ≢ length (asked files) → came now k ≡ came files k)
      (same_more : (which : List ℕ) → told now which ≡ told files which)
      (closed : GivesBack asked came told (λ (f : FileFeedState S). reads f.from) (λ (f : FileFeedState S). word f.from) feeds now new) where
    base : ℕ
    base = length (asked old)

    size : length (asked files) ≡ base + i
    unfolding base
    size = let n = length-take-le i names (omega (arith, inside)) in ap length in_order ∙ length-append (asked old) (take i names) ∙ ap (λ m. length (asked old) + m) n

    all_asked : asked new ≡ asked old ++ take (i + 1) names
    all_asked = closed.asked_same ∙ more_in_order (asked old) (asked files) (asked now) names i name inside at in_order asked_more

    placed : ArePlaced asked came told (λ (f : FileFeedState S). reads f.from) (λ (f : FileFeedState S). word f.from) base feeds
    unfolding base
    placed = are_placed reads word (length (asked old)) (told old) names d feeds unread

    failed_there : came new (base + i) ≡ refused
    failed_there = closed.others base placed (base + i) (inr (omega (arith, many))) ∙ ap (came now) (sym size) ∙ failed

    pub unopened : IsUnopened names (opens_of asked came old new) i
    unfolding base
    unopened = record {
      inside = inside;
      asked = all_asked;
      unread = λ j l.
          let m : j < length feeds = omega (arith, l, many) in
          let f = some_of feeds j m in
          closed.back_at base placed j f m ∙ ap (λ (r : Reads). back r) (unread j f m).fresh;
      failed = failed_there;
    }

    pub unopened_in_order : OpensInOrder asked came told names old new
    unfolding base
    unopened_in_order =
        in_order_given asked came told (λ (f : FileFeedState S). reads f.from) (λ (f : FileFeedState S). word f.from) names feeds (i + 1) old now new
        all_asked (omega (arith, many)) placed (λ j f l. (unread j f l).content) closed
        (λ k l. others k (λ e. omega (arith, e, size, l)) ∙ earlier k l) (λ which. same_more which ∙ same which)
        (λ j past within.
        let n = ap length all_asked in
        let t = length-take-le (i + 1) names (omega (arith, inside)) in
        let a = length-append (asked old) (take (i + 1) names) in
        let here : i ≡ j = omega (arith, many, past, within, n, t, a) in
        subst (λ (m : ℕ). IsOver (told old (get_or (asked new) (length (asked old) + m) [])) (came new (length (asked old) + m))) here
        (subst (λ (c : Came). IsOver (told old (get_or (asked new) (length (asked old) + i) [])) c) (sym failed_there) tt))

  -- all sources were opened, and all came back
  pub opened_in_order : {E : Type 0} (from : E → S) (feeds : List (FileFeedState S)) (given : List E) (old mid new : F) → AreOpened reads word asked came told names d old mid feeds → length given ≡ length names
      → ((i : ℕ) (e : E) → i < length names → (reads (from (get_or given i e))).place ≡ length (asked old) + i)
      → ((i : ℕ) (e : E) → i < length names → word (from (get_or given i e)) ≡ told old (get_or names i []))
      → GivesBack asked came told (λ e. reads (from e)) (λ e. word (from e)) given mid new
      → OpensInOrder asked came told names old new
  opened_in_order from feeds given old mid new opened many place tells closed =
      let all : asked new ≡ asked old ++ names = closed.asked_same ∙ opened.in_order in
      let whole : take (length names) names ≡ names = take_all (length names) names (omega arith) in
      in_order_given asked came told (λ e. reads (from e)) (λ e. word (from e)) names given (length names) old mid new
      (all ∙ ap (λ (t : List (List ℕ)). asked old ++ t) (sym whole)) (omega (arith, many))
      (λ i e l. place i e (omega (arith, l, many))) (λ i e l. tells i e (omega (arith, l, many))) closed opened.earlier opened.same
      (λ i past within. let n = ap length all in let a = length-append (asked old) names in absurd (let no : ⊥ = omega (arith, past, within, n, a, many) in no))

-- a source that can't be opened stops the sources
pub opening_stops : (names : List (List ℕ)) (shards : ℕ) (d : Definitions) (opens : Opens) (fault : Fault) → StopsAtOpening names opens fault → StopsAtSources names shards d opens fault
opening_stops names shards d opens fault (inl (source, is, h)) = subst (StopsAtSources names shards d opens) (sym is) h
opening_stops names shards d opens fault (inr is) = subst (StopsAtSources names shards d opens) (sym is) tt

-- one file was opened, and that is over
module _ {F : Type 0} (asked : F → List (List ℕ)) (came : F → ℕ → Came) (told : F → Telling) (name : List ℕ) (old new : F) where
  pub one_in_order : asked new ≡ asked old ++ name ∷ [] → IsOver (told old name) (came new (length (asked old))) → ((i : ℕ) → i < length (asked old) → came new i ≡ came old i) → ((which : List ℕ) → told new which ≡ told old which)
      → OpensInOrder asked came told (name ∷ []) old new
  one_in_order opened over earlier same = record {
    count = 1;
    in_order = opened;
    over = λ i least within.
        let n = ap length opened in
        let here : length (asked old) ≡ i = omega (arith, least, within, n, length-append (asked old) (name ∷ [])) in
        let at : get_or (asked new) (length (asked old)) [] ≡ name = ap (λ (a : List (List ℕ)). get_or a (length (asked old)) []) opened ∙ get_or_push (asked old) name [] (length (asked old)) refl in
        subst (λ (m : ℕ). IsOver (told old (get_or (asked new) m [])) (came new m)) here (subst (λ (x : List ℕ). IsOver (told old x) (came new (length (asked old)))) (sym at) over);
    earlier = earlier;
    same = same;
  }
