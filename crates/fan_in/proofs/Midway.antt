-- One feed, from its first entry to its end or fault.
use Rattle.std.proofs.Common.{◌≡◌, ◌<◌, arith, suc, append-nil, append_assoc, length-append, ℕ, true, false, Bool, eqb, List, [], ◌∷◌, ◌++◌, length, get_or, sym, refl, ap, subst, ◌∙◌, inl, inr, ◌⊎◌, Option, Some, None, Ok, Err}
use Rattle.std.specs.Prelude.{◌&&◌, All}
use Rattle.std.proofs.lemmas.List.{get_or_append_left}
use Rattle.std.proofs.lemmas.List.Folds.{list_any_none}
use Rattle.std.proofs.lemmas.List.Elements.{All-filter, All-nil, All-push, filter-append}
use Rattle.outside.specs.Outside.{Rose}
use Rattle.stream_base.specs.declared.entry.Entry.{Entry}
use Rattle.stream_base.specs.Model.Journals.{is_entry_within}
use Rattle.stream_base.specs.Model.Routes.{goes_to, routed}
use Rattle.stream_base.specs.Model.Watermark.{has_ended}
use Rattle.stream_base.specs.Model.What.{is_end}
use Rattle.source_feed.specs.FeedView.{FeedView, Steps, given_then}
use Rattle.source_feed.specs.Gives.{CountsReads}
use Rattle.source_feed.specs.Stream.{StaysTold, Stream}
use Rattle.source_feed.specs.declared.feed_fault.FeedFault.{FeedFault}
use Rattle.source_feed.specs.declared.feed_fault.FeedFault.TheVariants.{Read, NoMemory}
use Rattle.turnstile.specs.History.{BeginsWith}
use Rattle.fan_in.specs.declared.outcome.Outcome.{Outcome}
use Rattle.fan_in.specs.declared.outcome.Outcome.TheVariants.{Done, Fault, Full}
use Rattle.fan_in.specs.declared.port.Port.{Ghosts}
use Rattle.fan_in.specs.Gathering.{GaveStream, Shows, NamesOneOf}
use Rattle.fan_in.specs.Ports.{HasHanded, IsHalfway, PortLaws}
use Rattle.fan_in.specs.Reading.{AreFrom, AreSame, EndsLast, HaveHanded, IsReady, MayTake, StandAt, TakesMore, WasRead}

-- once seen, the stream of a source stays
pub seen_more : (a b c : Option Stream) → StaysTold a b → StaysTold b c → StaysTold a c
seen_more None b c h k = tt
seen_more (Some s) b c h k = subst (λ (x : Option Stream). StaysTold x c) h k

pub seen_first : (a : Option Stream) → StaysTold a a
seen_first None = tt
seen_first (Some s) = refl

-- a source that gives nothing more refuses nothing, and has given all
pub gave_all_last : (shards : ℕ) (o : Outcome) (back : FeedView) → IsHalfway shards o → back.whole ≡ Some (given_then back.gave None) → GaveStream back o
gave_all_last shards Done back i e = e
gave_all_last shards (Full shard) back i e = e
gave_all_last shards (Fault fault) back i e = subst (λ (f : FeedFault). GaveStream back (Fault f)) (sym i) tt

pub shows : (shards : ℕ) (o : Outcome) (back : FeedView) → IsHalfway shards o → back.ended ≡ true → back.answered ≡ None → Shows back o
shows shards Done back i e a = (e, a)
shows shards (Full shard) back i e a = (e, a)
shows shards (Fault fault) back i e a = inr i

pub no_read : (shards : ℕ) (o : Outcome) → IsHalfway shards o → o ≡ Fault Read → ⊥
no_read shards Done i e = absurd (cc)
no_read shards (Full shard) i e = absurd (cc)
no_read shards (Fault fault) i e = let f : NoMemory ≡ Read = cc in absurd (cc)

pub named_of : (shards : ℕ) (o : Outcome) → IsHalfway shards o → NamesOneOf shards o
named_of shards Done i = tt
named_of shards (Full shard) i = i
named_of shards (Fault fault) i = tt

pub routed_more : (shards k : ℕ) (given : List Entry) (more : List Entry) → routed shards k (given ++ more) ≡ routed shards k given ++ routed shards k more
routed_more shards k given more = filter-append (λ e. goes_to shards k e.what) given more

pub all_front : (P : Entry → Type 0) (xs ys : List Entry) → All P (xs ++ ys) → All P xs
all_front P xs ys h = λ k d l. subst P (get_or_append_left xs ys d k l) (h k d (omega (arith, length-append xs ys)))

-- no entry is an end
abbrev pub AreInner : List Entry → Type 0
AreInner entries = All (λ e. is_end e.what ≡ false) entries

no_end : (a b : Bool) → b ≡ false → (a && b) ≡ false
no_end true b h = h
no_end false b h = refl

-- where no entry is an end, no source has ended
not_ended : (s : ℕ) (entries : List Entry) → AreInner entries → has_ended s entries ≡ false
not_ended s entries h = list_any_none (λ (e : Entry). eqb e.source s && is_end e.what) entries (λ k d l. no_end (eqb (get_or entries k d).source s) (is_end (get_or entries k d).what) (h k d l))

-- behind entries that are no end, any entry may be the last
ends_push : (xs : List Entry) (e : Entry) → AreInner xs → EndsLast (xs ++ e ∷ [])
ends_push [] e h = ((λ _. refl), tt)
ends_push (x ∷ xs) e h =
    ((λ t. let no = h 0 x (omega arith) in absurd (let k : true ≡ false = sym t ∙ no in cc)), ends_push xs e (λ k d l. h (suc k) d (omega arith)))

ends_front : (xs ys : List Entry) → EndsLast (xs ++ ys) → EndsLast xs
ends_front [] ys h = tt
ends_front (x ∷ xs) ys h = ((λ t. nothing xs ys (h.0 t)), ends_front xs ys h.1)
  where
    nothing : (us ws : List Entry) → us ++ ws ≡ [] → us ≡ []
    nothing us ws e = let n = ap length e in no_length us (omega (arith, length-append us ws))
      where
        no_length : (us : List Entry) → length us ≡ 0 → us ≡ []
        no_length [] l = refl
        no_length (u ∷ us) l = absurd (omega arith)

ends_routed : (shards k : ℕ) (xs : List Entry) → EndsLast xs → EndsLast (routed shards k xs)
ends_routed shards k [] h = tt
ends_routed shards k (x ∷ xs) h = by_route (goes_to shards k x.what) refl (ends_routed shards k xs h.1)
  where
    by_route : (b : Bool) → goes_to shards k x.what ≡ b → EndsLast (routed shards k xs) → EndsLast (routed shards k (x ∷ xs))
    by_route true e m = rw e ((λ t. ap (routed shards k) (h.0 t)), m)
    by_route false e m = rw e m

-- what is routed of a source's entries, and a prefix of it, is of that source
from_part : (shards k source : ℕ) (given handed : List Entry) → AreFrom source given → BeginsWith (routed shards k given) handed → AreFrom source handed
from_part shards k source given handed h b =
    let e : routed shards k given ≡ handed ++ b.0 = b.1 in
    record {
      own = all_front (λ e. e.source ≡ source) handed b.0 (subst (λ (w : List Entry). All (λ e. e.source ≡ source) w) e (All-filter (λ e. goes_to shards k e.what) (λ e. e.source ≡ source) given h.own));
      within = all_front (λ e. is_entry_within e ≡ true) handed b.0 (subst (λ (w : List Entry). All (λ e. is_entry_within e ≡ true) w) e (All-filter (λ e. goes_to shards k e.what) (λ e. is_entry_within e ≡ true) given h.within));
      last = ends_front handed b.0 (subst EndsLast e (ends_routed shards k given h.last));
    }

-- with more entries to be had, no more than the first of them were handed in
has_more : (wanted more : List Entry) (k : ℕ) (o o' : Outcome) (handed : List Entry) (full : Type 0) → HasHanded wanted k o handed full → (o' ≡ Done → ⊥) → (o' ≡ Full k → o ≡ Full k)
    → HasHanded (wanted ++ more) k o' handed full
has_more wanted more k o o' handed full h n f = record {
  begins = (h.begins.0 ++ more, ap (λ l. l ++ more) h.begins.1 ∙ append_assoc handed h.begins.0 more);
  whole = λ e. absurd (n e);
  is_full = λ e. h.is_full (f e);
  lacks = λ e. let l = h.lacks (f e) in omega (arith, length-append wanted more);
}

module _ {P I : Type 0} (port : Ghosts P I) where
  -- where a feed stands that has given some entries so far
  pub record IsMidway (shards : ℕ) (start now : FeedView) (old new : ℕ) (outcome : Outcome) (first ports : List P) : Type 0 where
    pub given : List Entry
    pub same : AreSame port first ports
    pub source : now.source ≡ start.source
    pub unanswered : now.answered ≡ None
    pub origin : now.origin ≡ start.origin
    pub seen : StaysTold start.whole now.whole
    pub gave : now.gave ≡ given
    pub quiet : new ≡ old
    pub halfway : IsHalfway shards outcome
    pub from : AreFrom start.source given
    pub inner : now.ended ≡ false → AreInner given
    pub parts : HaveHanded port shards given outcome ports

  -- a port that was handed nothing more, as one before it was full
  still : (shards : ℕ) (entry : Entry) (given : List Entry) (o o' : Outcome) (ps qs : List P) (k : ℕ) (p : P) → k < length ps → HaveHanded port shards given o ps → qs ≡ ps → (o' ≡ Done → ⊥) → (o' ≡ Full k → o ≡ Full k)
      → HasHanded (routed shards k (given ++ entry ∷ [])) k o' (port.handed (get_or qs k p)) (port.is_full (get_or qs k p))
  still shards entry given o o' ps qs k p l h same n f =
      subst (λ (z : List P). HasHanded (routed shards k (given ++ entry ∷ [])) k o' (port.handed (get_or z k p)) (port.is_full (get_or z k p))) (sym same)
      (subst (λ (w : List Entry). HasHanded w k o' (port.handed (get_or ps k p)) (port.is_full (get_or ps k p))) (sym (routed_more shards k given (entry ∷ [])))
      (has_more (routed shards k given) (routed shards k (entry ∷ [])) k o o' (port.handed (get_or ps k p)) (port.is_full (get_or ps k p)) (h k p l) n f))

  step_parts : (shards : ℕ) (entry : Entry) (given : List Entry) (o o' : Outcome) (ps qs : List P) → length qs ≡ length ps
      → HaveHanded port shards given o ps → TakesMore port shards entry o o' ps qs → HaveHanded port shards (given ++ entry ∷ []) o' qs
  step_parts shards entry given Done o' ps qs n h t = λ k p l.
      let l' : k < length ps = omega arith in
      subst (λ (w : List Entry). HasHanded w k o' (port.handed (get_or qs k p)) (port.is_full (get_or qs k p)))
      (ap (λ (w : List Entry). w ++ routed shards k (entry ∷ [])) ((h k p l').whole refl) ∙ sym (routed_more shards k given (entry ∷ []))) (t.1 k p l')
  step_parts shards entry given (Full s) o' ps qs n h t = λ k p l.
      let l' : k < length ps = omega arith in
      still shards entry given (Full s) o' ps qs k p l' h t.1 (λ e. let d = t.0 in absurd (cc)) (λ e. sym t.0 ∙ e)
  step_parts shards entry given (Fault f) o' ps qs n h t = λ k p l.
      let l' : k < length ps = omega arith in
      still shards entry given (Fault f) o' ps qs k p l' h t.1 (λ e. let d = t.0 in absurd (cc)) (λ e. sym t.0 ∙ e)

  step_halfway : (shards : ℕ) (entry : Entry) (o o' : Outcome) (ps qs : List P) → IsHalfway shards o → TakesMore port shards entry o o' ps qs → IsHalfway shards o'
  step_halfway shards entry Done o' ps qs i t = t.0
  step_halfway shards entry (Full s) o' ps qs i t = subst (IsHalfway shards) (sym t.0) i
  step_halfway shards entry (Fault f) o' ps qs i t = subst (IsHalfway shards) (sym t.0) i

  -- each port has handed in entries of this source alone
  all_from : (shards source : ℕ) (given : List Entry) (o : Outcome) (ps : List P) → AreFrom source given → HaveHanded port shards given o ps → All (λ p. AreFrom source (port.handed p)) ps
  all_from shards source given o ps h parts = λ k p l. from_part shards k source given (port.handed (get_or ps k p)) h (parts k p l).begins

  parts_fault : (shards : ℕ) (given : List Entry) (outcome : Outcome) (fault : FeedFault) (ps : List P) → HaveHanded port shards given outcome ps → HaveHanded port shards given (Fault fault) ps
  parts_fault shards given outcome fault ps h = λ k p l. record {
    begins = (h k p l).begins;
    whole = λ e. absurd (cc);
    is_full = λ e. absurd (cc);
    lacks = λ e. absurd (cc);
  }

  -- the feed gave nothing more
  pub last : (shards : ℕ) (start now then' : FeedView) (old n n' : ℕ) (o : Outcome) (first ps : List P)
      → IsMidway shards start now old n o first ps → Steps now (Ok None) then' → CountsReads {T = Option Entry} now.answered n (Ok None) n'
      → WasRead port shards start then' old n' o first ps
  last shards start now then' old n n' o first ps m gives counts = record {
    same = m.same;
    read = record {
      back_is = record {
        of_source = gives.source ∙ m.source;
        shows = shows shards o then' m.halfway gives.outcome.still_ended gives.outcome.still_unanswered;
        origin = gives.origin ∙ m.origin;
        seen = seen_more start.whole now.whole then'.whole m.seen gives.seen;
        gave_stream = gave_all_last shards o then' m.halfway gives.outcome.all;
        read = λ e. absurd (no_read shards o m.halfway e);
        quiet = λ _. counts.quiet ∙ m.quiet;
      };
      named = named_of shards o m.halfway;
      from = all_from shards start.source m.given o ps m.from m.parts;
      parts = subst (λ (w : List Entry). HaveHanded port shards w o ps) (sym (gives.outcome.gave ∙ m.gave)) m.parts;
    };
  }

  -- the feed answered a fault
  pub fault_of : (shards : ℕ) (start now then' : FeedView) (old n n' : ℕ) (o : Outcome) (first ps : List P) (fault : FeedFault)
      → IsMidway shards start now old n o first ps → Steps now (Err fault) then' → CountsReads {T = Option Entry} now.answered n (Err fault) n'
      → WasRead port shards start then' old n' (Fault fault) first ps
  fault_of shards start now then' old n n' o first ps fault m gives counts = record {
    same = m.same;
    read = record {
      back_is = record {
        of_source = gives.source ∙ m.source;
        shows = inl gives.outcome.answered;
        origin = gives.origin ∙ m.origin;
        seen = seen_more start.whole now.whole then'.whole m.seen gives.seen;
        gave_stream = gives.outcome.refused;
        read = λ e. rose (counts.read (let f : fault ≡ Read = cc in ap Err f));
        quiet = λ ne. counts.quiet_fault (λ f. ne (ap Fault f)) ∙ m.quiet;
      };
      named = tt;
      from = all_from shards start.source m.given o ps m.from m.parts;
      parts = subst (λ (w : List Entry). HaveHanded port shards w (Fault fault) ps) (sym (gives.outcome.gave ∙ m.gave)) (parts_fault shards m.given o fault ps m.parts);
    };
  }
    where
      rose : (now.answered ≡ Some Read) ⊎ Rose n n' → Rose old n'
      rose (inl a) = let u = m.unanswered in absurd (cc)
      rose (inr r) = subst (λ (x : ℕ). Rose x n') m.quiet r

  module _ (laws : PortLaws port.is_at port.is_of port.is_same) where
    pub same_first : (ports : List P) → AreSame port ports ports
    same_first ports = record { many = refl; same = λ k p l. laws.first (get_or ports k p) }

    same_more : (a b c : List P) → AreSame port a b → AreSame port b c → AreSame port a c
    same_more a b c h k = record {
      many = k.many ∙ h.many;
      same = λ n p l. laws.more (get_or a n p) (get_or b n p) (get_or c n p) (h.same n p l) (k.same n p (let m = h.many in omega arith));
    }

    pub begin : (shards : ℕ) (start : FeedView) (n : ℕ) (outcome : Outcome) (ports : List P)
        → IsReady port start outcome ports → IsMidway shards start start n n outcome ports ports
    begin shards start n outcome ports r = record {
      given = [];
      same = same_first ports;
      source = refl;
      unanswered = r.unanswered;
      origin = refl;
      seen = seen_first start.whole;
      gave = r.unread;
      quiet = refl;
      halfway = subst (IsHalfway shards) (sym r.done) tt;
      from = record { own = All-nil (λ e. e.source ≡ start.source); within = All-nil (λ e. is_entry_within e ≡ true); last = tt };
      inner = λ _. All-nil (λ e. is_end e.what ≡ false);
      parts = λ k p l. record {
        begins = ([], sym (append-nil _ ∙ r.blank k p l));
        whole = λ _. r.blank k p l;
        is_full = λ e. absurd (let d = r.done in cc);
        lacks = λ e. absurd (let d = r.done in cc);
      };
    }

    -- the ports may take a further entry that the feed gives
    pub may_take : (shards : ℕ) (start now then' : FeedView) (old n : ℕ) (o o' : Outcome) (first ps : List P) (entry : Entry)
        → IsReady port start o first → IsMidway shards start now old n o' first ps → Steps now (Ok (Some entry)) then' → All (MayTake port entry) ps
    may_take shards start now then' old n o o' first ps entry r m gives = λ k p l.
        let lf : k < length first = let a = (m.same).many in omega arith in
        let source : entry.source ≡ start.source = gives.outcome.own ∙ m.source in
        let begins = (m.parts k p l).begins in
        let inner = All-filter (λ e. goes_to shards k e.what) (λ e. is_end e.what ≡ false) m.given (m.inner gives.outcome.running) in
        record {
          own_source = subst (λ (s : ℕ). port.is_of s (get_or ps k p)) (sym source) (laws.source start.source (get_or first k p) (get_or ps k p) ((m.same).same k p lf) (r.own_source k p lf));
          may = record {
            within = gives.outcome.within;
            running = not_ended entry.source (port.handed (get_or ps k p)) (all_front (λ e. is_end e.what ≡ false) (port.handed (get_or ps k p)) begins.0 (subst AreInner begins.1 inner));
          };
        }

    -- a further entry was given and taken
    pub more : (shards : ℕ) (start now then' : FeedView) (old n n' : ℕ) (o o' : Outcome) (first ps qs : List P) (entry : Entry)
        → IsMidway shards start now old n o first ps → Steps now (Ok (Some entry)) then' → CountsReads {T = Option Entry} now.answered n (Ok (Some entry)) n'
        → AreSame port ps qs → TakesMore port shards entry o o' ps qs → IsMidway shards start then' old n' o' first qs
    more shards start now then' old n n' o o' first ps qs entry m gives counts s t =
        let before : AreInner m.given = m.inner gives.outcome.running in
        record {
          given = m.given ++ entry ∷ [];
          same = same_more first ps qs m.same s;
          source = gives.source ∙ m.source;
          unanswered = gives.outcome.still_unanswered;
          origin = gives.origin ∙ m.origin;
          seen = seen_more start.whole now.whole then'.whole m.seen gives.seen;
          gave = gives.outcome.gave ∙ ap (λ (es : List Entry). es ++ entry ∷ []) m.gave;
          quiet = counts.quiet ∙ m.quiet;
          halfway = step_halfway shards entry o o' ps qs m.halfway t;
          from = record {
            own = All-push (λ e. e.source ≡ start.source) m.given entry (m.from).own (gives.outcome.own ∙ m.source);
            within = All-push (λ e. is_entry_within e ≡ true) m.given entry (m.from).within gives.outcome.within;
            last = ends_push m.given entry before;
          };
          inner = λ e. All-push (λ e. is_end e.what ≡ false) m.given entry before (sym gives.outcome.end ∙ e);
          parts = step_parts shards entry m.given o o' ps qs s.many m.parts t;
        }

    -- the ports still stand at their inlets
    pub still_at : (inlets : List I) (old new : List P) → StandAt port inlets old → AreSame port old new → StandAt port inlets new
    still_at inlets old new h s = record {
      few = h.few;
      many = s.many ∙ h.many;
      own = λ k i p l.
          let lo : k < length old = let m = s.many in omega arith in
          laws.inlet (get_or inlets k i) (get_or old k p) (get_or new k p) (s.same k p lo) (h.own k i p lo);
    }
