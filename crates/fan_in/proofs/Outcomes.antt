-- The outcomes of feeds, as the notes of owners go into them.
use Rattle.std.proofs.Common.{◌≡◌, ◌≢◌, ◌≤◌, ◌<◌, ◌+◌, arith, append_assoc, length-append, ℕ, Bool, true, false, eqb, List, [], ◌∷◌, ◌++◌, length, sym, refl, ap, subst, ◌∙◌, inl, inr, ◌⊎◌, ⊎_elim}
use Rattle.stream_base.specs.declared.entry.Entry.{Entry}
use Rattle.stream_base.specs.declared.limits.TheConstants.{JOURNAL_MAX}
use Rattle.stream_base.specs.Model.Routes.{entries_from, routed}
use Rattle.source_feed.specs.FeedView.{FeedView}
use Rattle.source_feed.specs.declared.feed_fault.FeedFault.{FeedFault}
use Rattle.source_feed.specs.declared.feed_fault.FeedFault.TheVariants.{Read, NoMemory}
use Rattle.fan_in.specs.declared.outcome.Outcome.{Outcome}
use Rattle.fan_in.specs.declared.outcome.Outcome.TheVariants.{Done, Fault, Full}
use Rattle.fan_in.specs.Gathering.{HoldsFirst, FeedEnded, NamesOneOf}
use Rattle.fan_in.specs.Ports.{HasHanded, IsAbout, IsHalfway}
use Rattle.fan_in.specs.Settling.{Follows, HoldsSent, worse}
use Rattle.turnstile.specs.History.{BeginsWith}
use Rattle.fan_in.proofs.Backs.{back_without}
use Rattle.fan_in.proofs.Midway.{named_of}

pub follows_first : (own : Outcome) → Follows 0 own own
follows_first Done = tt
follows_first (Full s) = inl refl
follows_first (Fault f) = refl

half_more : (m : ℕ) (o note : Outcome) → IsHalfway m o → IsAbout m note → IsHalfway (m + 1) (worse o note)
half_more m Done Done h a = tt
half_more m Done (Full t) h a = omega arith
half_more m Done (Fault f) h a = a
half_more m (Full s) Done h a = omega arith
half_more m (Full s) (Full t) h a = omega arith
half_more m (Full s) (Fault f) h a = a
half_more m (Fault f) note h a = h

-- where a lane took no more, a fault alone comes behind it
full_more : (m s : ℕ) (o note : Outcome) → IsAbout m note → (o ≡ Full s) ⊎ (o ≡ Fault NoMemory) → (worse o note ≡ Full s) ⊎ (worse o note ≡ Fault NoMemory)
full_more m s o note a (inl e) = subst (λ (x : Outcome). (worse x note ≡ Full s) ⊎ (worse x note ≡ Fault NoMemory)) (sym e) (by note a)
  where
    by : (n : Outcome) → IsAbout m n → (worse (Full s) n ≡ Full s) ⊎ (worse (Full s) n ≡ Fault NoMemory)
    by Done b = inl refl
    by (Full t) b = inl refl
    by (Fault f) b = inr (ap Fault b)
full_more m s o note a (inr e) = inr (subst (λ (x : Outcome). worse x note ≡ Fault NoMemory) (sym e) refl)

pub follows_more : (m : ℕ) (own o note : Outcome) → Follows m own o → IsAbout m note → Follows (m + 1) own (worse o note)
follows_more m Done o note h a = half_more m o note h a
follows_more m (Full s) o note h a = full_more m s o note a h
follows_more m (Fault f) o note h a = subst (λ (x : Outcome). worse x note ≡ Fault f) (sym h) refl

-- a later shard's note leaves what is said of an earlier shard
pub held_later : (j m i : ℕ) (sent journal : List Entry) (o note : Outcome) → j ≢ m → IsAbout m note → HoldsSent j i sent o journal → HoldsSent j i sent (worse o note) journal
held_later j m i sent journal Done Done ne a h = h
held_later j m i sent journal Done (Full t) ne a h = record { prefix = h.prefix; whole = λ e. absurd (cc); full = λ e. absurd (ne (let s : t ≡ j = cc in sym s ∙ a)); lacks = λ e. absurd (ne (let s : t ≡ j = cc in sym s ∙ a)) }
held_later j m i sent journal Done (Fault f) ne a h = record { prefix = h.prefix; whole = λ e. absurd (cc); full = λ e. absurd (cc); lacks = λ e. absurd (cc) }
held_later j m i sent journal (Full s) Done ne a h = h
held_later j m i sent journal (Full s) (Full t) ne a h = h
held_later j m i sent journal (Full s) (Fault f) ne a h = record { prefix = h.prefix; whole = λ e. absurd (cc); full = λ e. absurd (cc); lacks = λ e. absurd (cc) }
held_later j m i sent journal (Fault f) note ne a h = h

half_held : (m i : ℕ) (sent journal : List Entry) (o note : Outcome) → IsHalfway m o → HoldsSent m i sent note journal → HoldsSent m i sent (worse o note) journal
half_held m i sent journal Done note b h = h
half_held m i sent journal (Full s) Done b h = record { prefix = h.prefix; whole = λ e. absurd (cc); full = λ e. absurd (let q : s ≡ m = cc in omega arith); lacks = λ e. absurd (let q : s ≡ m = cc in omega arith) }
half_held m i sent journal (Full s) (Full t) b h = record { prefix = h.prefix; whole = λ e. absurd (cc); full = λ e. absurd (let q : s ≡ m = cc in omega arith); lacks = λ e. absurd (let q : s ≡ m = cc in omega arith) }
half_held m i sent journal (Full s) (Fault f) b h = record { prefix = h.prefix; whole = λ e. absurd (cc); full = λ e. absurd (cc); lacks = λ e. absurd (cc) }
half_held m i sent journal (Fault f) note b h = record { prefix = h.prefix; whole = λ e. absurd (cc); full = λ e. absurd (cc); lacks = λ e. absurd (cc) }

fault_held : (m i : ℕ) (sent journal : List Entry) (o : Outcome) (f : FeedFault) → o ≡ Fault f → BeginsWith sent (entries_from i journal) → HoldsSent m i sent o journal
fault_held m i sent journal o f e b = record { prefix = b; whole = λ d. absurd (cc); full = λ d. absurd (cc); lacks = λ d. absurd (cc) }

few_from : (i : ℕ) (xs : List Entry) → length (entries_from i xs) ≤ length xs
few_from i [] = omega arith
few_from i (x ∷ xs) = by_source (eqb x.source i) refl (few_from i xs)
  where
    by_source : (c : Bool) → eqb x.source i ≡ c → length (entries_from i xs) ≤ length xs → length (entries_from i (x ∷ xs)) ≤ length (x ∷ xs)
    by_source true u m = rw u (omega arith)
    by_source false u m = rw u (omega arith)

-- an owner that was sent more of a source than a journal holds noted that
full_held : (m i s : ℕ) (sent journal : List Entry) (note : Outcome) → length journal ≤ JOURNAL_MAX → IsAbout m note → (s ≡ m → JOURNAL_MAX < length sent) → HoldsSent m i sent note journal
    → HoldsSent m i sent (worse (Full s) note) journal
full_held m i s sent journal Done short a over h = record {
  prefix = h.prefix;
  whole = λ e. absurd (cc);
  full = λ e. absurd (no (let q : s ≡ m = cc in q));
  lacks = λ e. absurd (no (let q : s ≡ m = cc in q));
}
  where
    no : s ≡ m → ⊥
    no q = let more = over q in let is = ap length (h.whole refl) in omega (arith, few_from i journal)
full_held m i s sent journal (Full t) short a over h = record {
  prefix = h.prefix;
  whole = λ e. absurd (cc);
  full = λ e. h.full (ap Full a);
  lacks = λ e. h.lacks (ap Full a);
}
full_held m i s sent journal (Fault f) short a over h = fault_held m i sent journal (Fault f) f refl h.prefix

-- what the owner noted goes into the outcome
pub held_now : (m i : ℕ) (sent journal : List Entry) (own o note : Outcome) → length journal ≤ JOURNAL_MAX → IsAbout m note → (own ≡ Full m → JOURNAL_MAX < length sent) → Follows m own o → HoldsSent m i sent note journal
    → HoldsSent m i sent (worse o note) journal
held_now m i sent journal Done o note short a over b h = half_held m i sent journal o note b h
held_now m i sent journal (Full s) o note short a over b h =
    ⊎_elim
    (λ e. subst (λ (x : Outcome). HoldsSent m i sent (worse x note) journal) (sym e) (full_held m i s sent journal note short a (λ q. over (ap Full q)) h))
    (λ e. fault_held m i sent journal (worse o note) NoMemory (subst (λ (x : Outcome). worse x note ≡ Fault NoMemory) (sym e) refl) h.prefix) b
held_now m i sent journal (Fault f) o note short a over b h = fault_held m i sent journal (worse o note) f (subst (λ (x : Outcome). worse x note ≡ Fault f) (sym b) refl) h.prefix

half_back : (n : ℕ) (start back : FeedView) (o : Outcome) (old new : ℕ) → IsHalfway n o → FeedEnded start back Done old new → FeedEnded start back o old new
half_back n start back Done old new h b = b
half_back n start back (Full s) old new h b = record { of_source = b.of_source; origin = b.origin; seen = b.seen; shows = b.shows; gave_stream = b.gave_stream; read = λ e. absurd (cc); quiet = λ _. b.quiet (λ e. cc) }
half_back n start back (Fault f) old new h b =
    subst (λ (x : FeedFault). FeedEnded start back (Fault x) old new) (sym h)
    (record { of_source = b.of_source; origin = b.origin; seen = b.seen; shows = inr refl; gave_stream = tt; read = λ e. absurd (let q : NoMemory ≡ Read = cc in cc); quiet = λ _. b.quiet (λ e. cc) })

full_back : (s : ℕ) (start back : FeedView) (o : Outcome) (old new : ℕ) → (o ≡ Full s) ⊎ (o ≡ Fault NoMemory) → FeedEnded start back (Full s) old new → FeedEnded start back o old new
full_back s start back o old new (inl e) b = subst (λ (y : Outcome). FeedEnded start back y old new) (sym e) b
full_back s start back o old new (inr e) b = subst (λ (y : Outcome). FeedEnded start back y old new) (sym e) (back_without start back (Full s) old new b)

-- a feed that was handed back shows its outcome
pub back_follows : (n : ℕ) (start back : FeedView) (own o : Outcome) (old new : ℕ) → Follows n own o → FeedEnded start back own old new → FeedEnded start back o old new
back_follows n start back Done o old new f b = half_back n start back o old new f b
back_follows n start back (Full s) o old new f b = full_back s start back o old new f b
back_follows n start back (Fault x) o old new f b = subst (λ (y : Outcome). FeedEnded start back y old new) (sym f) b

pub named_follows : (n : ℕ) (own o : Outcome) → NamesOneOf n own → Follows n own o → NamesOneOf n o
named_follows n Done o m f = named_of n o f
named_follows n (Full s) o m f = ⊎_elim (λ e. subst (NamesOneOf n) (sym e) m) (λ e. subst (NamesOneOf n) (sym e) tt) f
named_follows n (Fault x) o m f = subst (NamesOneOf n) (sym f) tt

own_done : (n : ℕ) (own o : Outcome) → Follows n own o → o ≡ Done → own ≡ Done
own_done n Done o f e = refl
own_done n (Full s) o f e = absurd (⊎_elim (λ (q : o ≡ Full s). let d : Full s ≡ Done = sym q ∙ e in let no : ⊥ = absurd (cc) in no) (λ (q : o ≡ Fault NoMemory). let d : Fault NoMemory ≡ Done = sym q ∙ e in let no : ⊥ = absurd (cc) in no) f)
own_done n (Fault x) o f e = absurd (let q : Fault x ≡ Done = sym f ∙ e in cc)

-- a shard holds its part of the entries that a feed gave
pub part_of : (n k i : ℕ) (entries sent journal : List Entry) (own o : Outcome) (full : Type 0) → Follows n own o → HasHanded (routed n k entries) k own sent full → HoldsSent k i sent o journal → HoldsFirst n k i entries o journal
part_of n k i entries sent journal own o full f has h =
    let b = has.begins in
    record {
      prefix = (h.prefix.0 ++ b.0, b.1 ∙ ap (λ (x : List Entry). x ++ b.0) h.prefix.1 ∙ append_assoc (entries_from i journal) h.prefix.0 b.0);
      whole = λ e. h.whole e ∙ has.whole (own_done n own o f e);
      full = h.full;
      lacks = λ e. let x = h.lacks e in omega (arith, ap length b.1, length-append sent b.0);
    }
