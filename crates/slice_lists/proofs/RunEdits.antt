-- Runs by their neighbours: they are the pieces of their tuples, and what an edit leaves of them.
use Rattle.std.proofs.Common.{◌≡◌, ◌∙◌, ℕ, ◌<◌, ◌≤◌, Bool, true, false, cond, List, [], ◌∷◌, ◌++◌, ap, sym, refl, subst, arith, inl, inr}
use Rattle.std.specs.Prelude.{◌⊎◌, nat_lt}
use Rattle.std.specs.List.{flat_map}
use Rattle.std.proofs.lemmas.Bool.{ltb-true, ltb-false}
use Rattle.std.proofs.lemmas.Bool.Decides.{nat_tests}
use Rattle.stream_base.specs.declared.kept.Kept.{Kept}
use Rattle.stream_base.specs.Model.Journal.{put_in_order}
use Rattle.stream_base.specs.Model.Windows.{first_time, last_time, glued, pieces_of}
use Rattle.slice_lists.specs.Runs.{IsRun, IsPartFrom, AreParted, ArePartFrom, AreRuns}
use Rattle.stream_base.proofs.Filters.{cases_of}
use Rattle.slice_lists.proofs.RunFacts.{put_first, put_behind}

module _ (cut : ℕ → ℕ → Bool) where
  -- runs are the pieces of their tuples
  glued_run : (run : List Kept) (rest : List Kept) (runs : List (List Kept)) → pieces_of (λ x y. cut x.time y.time) rest ≡ runs → IsRun (λ a b. cut a b ≡ false) run → IsPartFrom (λ a b. cut a b ≡ true) run runs → AreRuns cut runs → pieces_of (λ x y. cut x.time y.time) (run ++ rest) ≡ run ∷ runs
  glued_run [] rest runs e r c a = absurd r
  glued_run (x ∷ []) rest [] e r c a = ap (glued (λ x y. cut x.time y.time) x) e
  glued_run (x ∷ []) rest ([] ∷ runs) e r c a = absurd a.0
  glued_run (x ∷ []) rest ((y ∷ ys) ∷ runs) e r c a = ap (glued (λ x y. cut x.time y.time) x) e ∙ ap (λ b. cond b ((x ∷ []) ∷ (y ∷ ys) ∷ runs) ((x ∷ y ∷ ys) ∷ runs)) c
  glued_run (x ∷ y ∷ ys) rest runs e r c a = ap (glued (λ x y. cut x.time y.time) x) (glued_run (y ∷ ys) rest runs e r.1 c a) ∙ ap (λ b. cond b ((x ∷ []) ∷ (y ∷ ys) ∷ runs) ((x ∷ y ∷ ys) ∷ runs)) r.0

  pub runs_are_pieces : (runs : List (List Kept)) → AreRuns cut runs → pieces_of (λ x y. cut x.time y.time) (flat_map (λ run. run) runs) ≡ runs
  runs_are_pieces [] a = refl
  runs_are_pieces (run ∷ runs) a = glued_run run (flat_map (λ run. run) runs) runs (runs_are_pieces runs a.2) a.0 a.1 a.2

  -- pieces are runs
  glued_are_runs : (x : Kept) (pieces : List (List Kept)) → AreRuns cut pieces → AreRuns cut (glued (λ x y. cut x.time y.time) x pieces)
  glued_are_runs x [] a = (tt, tt, tt)
  glued_are_runs x ([] ∷ pieces) a = absurd a.0
  glued_are_runs x ((y ∷ ys) ∷ pieces) a = by (cut x.time y.time) refl
    where
      by : (b : Bool) → cut x.time y.time ≡ b → AreRuns cut (cond b ((x ∷ []) ∷ (y ∷ ys) ∷ pieces) ((x ∷ y ∷ ys) ∷ pieces))
      by true e = (tt, e, a)
      by false e = ((e, a.0), off pieces a.1, a.2)
        where
          off : (others : List (List Kept)) → IsPartFrom (λ a b. cut a b ≡ true) (y ∷ ys) others → IsPartFrom (λ a b. cut a b ≡ true) (x ∷ y ∷ ys) others
          off [] c = tt
          off (other ∷ others) c = c

  pub pieces_are_runs : (kept : List Kept) → AreRuns cut (pieces_of (λ x y. cut x.time y.time) kept)
  pieces_are_runs [] = tt
  pieces_are_runs (x ∷ xs) = glued_are_runs x (pieces_of (λ x y. cut x.time y.time) xs) (pieces_are_runs xs)

module _ (near apart : ℕ → ℕ → Type 0) where
  -- runs put one after another
  pub joined : (before behind : List (List Kept)) → AreParted near apart before → AreParted near apart behind → ArePartFrom apart before behind → AreParted near apart (before ++ behind)
  joined [] behind a b c = b
  joined (run ∷ []) behind a b c = (a.0, c, b)
  joined (run ∷ next ∷ runs) behind a b c = (a.0, a.1, joined (next ∷ runs) behind a.2 b c)

  pub parted : (before behind : List (List Kept)) → AreParted near apart (before ++ behind) → AreParted near apart before × AreParted near apart behind × ArePartFrom apart before behind
  parted [] behind a = (tt, a, tt)
  parted (run ∷ []) behind a = ((a.0, tt, tt), a.2, a.1)
  parted (run ∷ next ∷ runs) behind a = let p = parted (next ∷ runs) behind a.2 in ((a.0, a.1, p.0), p.1, p.2)

  -- only the first time behind counts
  cut_off_at : (before : List (List Kept)) (q r : List Kept) (others rest : List (List Kept)) → first_time q ≡ first_time r → ArePartFrom apart before (q ∷ others) → ArePartFrom apart before (r ∷ rest)
  cut_off_at [] q r others rest e c = tt
  cut_off_at (run ∷ []) q r others rest e c = subst (apart (last_time run)) e c
  cut_off_at (run ∷ next ∷ runs) q r others rest e c = cut_off_at (next ∷ runs) q r others rest e c

  off_at : (p q : List Kept) (others : List (List Kept)) → last_time p ≡ last_time q → IsPartFrom apart p others → IsPartFrom apart q others
  off_at p q [] e c = tt
  off_at p q (next ∷ others) e c = subst (λ t. apart t (first_time next)) e c

  -- a run in the middle gives way to one that is cut off as it
  pub replaced : (before : List (List Kept)) (p q : List Kept) (behind rest : List (List Kept)) → AreParted near apart (before ++ p ∷ behind) → first_time p ≡ first_time q → IsRun near q → IsPartFrom apart q rest → AreParted near apart rest → AreParted near apart (before ++ q ∷ rest)
  replaced before p q behind rest a e r c b =
      let s = parted before (p ∷ behind) a in
      joined before (q ∷ rest) s.0 (r, c, b) (cut_off_at before p q behind rest e s.2)

  last_behind : (p : List Kept) (x : Kept) (q : List Kept) → last_time (p ++ x ∷ q) ≡ last_time (x ∷ q)
  last_behind [] x q = refl
  last_behind (y ∷ []) x q = refl
  last_behind (y ∷ z ∷ p) x q = last_behind (z ∷ p) x q

  first_stays : (p q : List Kept) → IsRun near p → first_time p ≡ first_time (p ++ q)
  first_stays [] q r = absurd r
  first_stays (x ∷ p) q r = refl

  longer_run : (p : List Kept) (x : Kept) (q : List Kept) → IsRun near p → near (last_time p) x.time → IsRun near (x ∷ q) → IsRun near (p ++ x ∷ q)
  longer_run [] x q r c s = absurd r
  longer_run (y ∷ []) x q r c s = (c, s)
  longer_run (y ∷ z ∷ p) x q r c s = (r.0, longer_run (z ∷ p) x q r.1 c s)

  -- a tuple becomes a run of its own
  pub added : (before behind : List (List Kept)) (x : Kept) → AreParted near apart (before ++ behind) → ArePartFrom apart before ((x ∷ []) ∷ []) → IsPartFrom apart (x ∷ []) behind → AreParted near apart (before ++ (x ∷ []) ∷ behind)
  added before behind x a l r =
      let s = parted before behind a in
      joined before ((x ∷ []) ∷ behind) s.0 (tt, r, s.1) (cut_off_at before (x ∷ []) (x ∷ []) [] behind refl l)

  -- a tuple enters a run at its end
  pub extended : (before : List (List Kept)) (p : List Kept) (behind : List (List Kept)) (x : Kept) → AreParted near apart (before ++ p ∷ behind) → near (last_time p) x.time → IsPartFrom apart (x ∷ []) behind → AreParted near apart (before ++ (p ++ x ∷ []) ∷ behind)
  extended before p behind x a l r =
      let s = parted before (p ∷ behind) a in
      replaced before p (p ++ x ∷ []) behind behind a (first_stays p (x ∷ []) s.1.0) (longer_run p x [] s.1.0 l tt) (off_at (x ∷ []) (p ++ x ∷ []) behind (sym (last_behind p x [])) r) s.1.2

  -- a tuple enters a run at its front
  pub fronted : (before : List (List Kept)) (q : List Kept) (behind : List (List Kept)) (x : Kept) → AreParted near apart (before ++ q ∷ behind) → ArePartFrom apart before ((x ∷ []) ∷ []) → near x.time (first_time q) → AreParted near apart (before ++ (x ∷ q) ∷ behind)
  fronted before [] behind x a l r = absurd (parted before ([] ∷ behind) a).1.0
  fronted before (y ∷ q) behind x a l r =
      let s = parted before ((y ∷ q) ∷ behind) a in
      joined before ((x ∷ y ∷ q) ∷ behind) s.0 ((r, s.1.0), off_at (y ∷ q) (x ∷ y ∷ q) behind refl s.1.1, s.1.2) (cut_off_at before (x ∷ []) (x ∷ y ∷ q) [] behind refl l)

  -- a tuple joins two runs
  pub merged : (before : List (List Kept)) (p q : List Kept) (behind : List (List Kept)) (x : Kept) → AreParted near apart (before ++ p ∷ q ∷ behind) → near (last_time p) x.time → near x.time (first_time q) → AreParted near apart (before ++ (p ++ x ∷ q) ∷ behind)
  merged before p [] behind x a l r = absurd (parted before (p ∷ [] ∷ behind) a).1.2.0
  merged before p (y ∷ q) behind x a l r =
      let s = parted before (p ∷ (y ∷ q) ∷ behind) a in
      replaced before p (p ++ x ∷ y ∷ q) ((y ∷ q) ∷ behind) behind a (first_stays p (x ∷ y ∷ q) s.1.0) (longer_run p x (y ∷ q) s.1.0 l (r, s.1.2.0)) (off_at (y ∷ q) (p ++ x ∷ y ∷ q) behind (sym (last_behind p x (y ∷ q))) s.1.2.1) s.1.2.2

  module _ (first : (a b c : ℕ) → a ≤ b → b ≤ c → near a c → near a b) (second : (a b c : ℕ) → a ≤ b → b ≤ c → near a c → near b c) where
    -- a tuple enters a run between its first and its last
    inside_run : (y : Kept) (ys : List Kept) (x : Kept) → y.time ≤ x.time → x.time < last_time (y ∷ ys) → IsRun near (y ∷ ys) → IsRun near (y ∷ put_in_order ys x) × (last_time (y ∷ put_in_order ys x) ≡ last_time (y ∷ ys))
    inside_run y [] x low high r = absurd (omega arith)
    inside_run y (z ∷ zs) x low high r = by (cases_of (nat_lt x.time z.time)) (λ l. inside_run z zs x l high r.1)
      where
        by : (nat_lt x.time z.time ≡ true) ⊎ (nat_lt x.time z.time ≡ false) → (z.time ≤ x.time → IsRun near (z ∷ put_in_order zs x) × (last_time (z ∷ put_in_order zs x) ≡ last_time (z ∷ zs)))
            → IsRun near (y ∷ put_in_order (z ∷ zs) x) × (last_time (y ∷ put_in_order (z ∷ zs) x) ≡ last_time (y ∷ z ∷ zs))
        by (inl early) later =
            let l : x.time < z.time = ltb-true x.time z.time early in
            subst (λ l. IsRun near (y ∷ l) × (last_time (y ∷ l) ≡ last_time (y ∷ z ∷ zs))) (sym (put_first z zs x early))
            ((first y.time x.time z.time low (omega arith) r.0, (second y.time x.time z.time low (omega arith) r.0, r.1)), refl)
        by (inr behind) later =
            let h = later (ltb-false x.time z.time behind) in
            subst (λ l. IsRun near (y ∷ l) × (last_time (y ∷ l) ≡ last_time (y ∷ z ∷ zs))) (sym (put_behind z zs x behind))
            ((r.0, h.0), h.1)

    pub entered : (before : List (List Kept)) (p : List Kept) (behind : List (List Kept)) (x : Kept) → AreParted near apart (before ++ p ∷ behind) → first_time p ≤ x.time → x.time < last_time p → AreParted near apart (before ++ put_in_order p x ∷ behind)
    entered before [] behind x a low high = absurd (parted before ([] ∷ behind) a).1.0
    entered before (y ∷ ys) behind x a low high =
        let s = parted before ((y ∷ ys) ∷ behind) a in
        let late : nat_lt x.time y.time ≡ false = grind (arith, nat_tests) in
        let h = inside_run y ys x low high s.1.0 in
        subst (λ q. AreParted near apart (before ++ q ∷ behind)) (sym (put_behind y ys x late))
        (replaced before (y ∷ ys) (y ∷ put_in_order ys x) behind behind a refl h.0 (off_at (y ∷ ys) (y ∷ put_in_order ys x) behind (sym h.1) s.1.1) s.1.2)
