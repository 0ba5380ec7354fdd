-- A feed that is read to its end, and the part of what it gave.
use Rattle.std.proofs.Common.{◌≡◌, ◌∙◌, ◌++◌, ◌⊎◌, ℕ, Bool, true, false, cond, List, [], ◌∷◌, Option, Some, None, Result, Ok, Err, sym, subst, ap, refl, append_assoc, append-nil, filter, inl, inr}
use Rattle.std.specs.Prelude.{IfOk, IfSome, IsErrOf, OnOk}
use Rattle.std.specs.Io.KnownBytes.{Appends, Keeps}
use Rattle.std.specs.List.{flat_map}
use Rattle.csv.specs.Writing.{text_written}
use Rattle.csv.specs.declared.writer.Writer.{Writer}
use Rattle.outside.specs.Outside.{Rose}
use Rattle.stream_base.specs.declared.entry.Entry.{Entry}
use Rattle.stream_base.specs.Model.Routes.{goes_to}
use Rattle.source_feed.specs.FeedFault.{refusal_of}
use Rattle.source_feed.specs.FeedView.{Answers, FeedView, Steps, StepsBack, StepsNowhere, StepsOn, given_then}
use Rattle.source_feed.specs.Gives.{CountsReads}
use Rattle.source_feed.specs.Stream.{Refusal}
use Rattle.source_feed.specs.declared.feed_fault.FeedFault.{FeedFault}
use Rattle.source_feed.specs.declared.feed_fault.FeedFault.TheVariants.{Read as FeedRead, NoMemory as FeedMemory}
use Rattle.part_laws.specs.Parts.{event_text, part_text}
use Rattle.part_text.specs.Holding.{IsHeld}
use Rattle.part_text.specs.Parting.{HoldsPart, IsSameSource, ShowsRefusal}
use Rattle.part_text.specs.Writing.{IsBetween, WritesText, own_text}

-- the part of entries with one more
pub part_more : (shards k : ℕ) (entries : List Entry) (e : Entry) → part_text shards k (entries ++ e ∷ []) ≡ part_text shards k entries ++ cond (goes_to shards k e.what) (event_text e.what) []
part_more shards k [] e = by (goes_to shards k e.what)
  where
    by : (b : Bool) → flat_map (λ (x : Entry). event_text x.what) (cond b (e ∷ []) []) ≡ cond b (event_text e.what) []
    by true = append-nil (event_text e.what)
    by false = refl
part_more shards k (x ∷ entries) e = by (goes_to shards k x.what) (part_more shards k entries e)
  where
    more : List ℕ
    more = cond (goes_to shards k e.what) (event_text e.what) []

    by : (b : Bool) → part_text shards k (entries ++ e ∷ []) ≡ part_text shards k entries ++ more
        → flat_map (λ (y : Entry). event_text y.what) (cond b (x ∷ filter (λ (y : Entry). goes_to shards k y.what) (entries ++ e ∷ [])) (filter (λ (y : Entry). goes_to shards k y.what) (entries ++ e ∷ [])))
        ≡ flat_map (λ (y : Entry). event_text y.what) (cond b (x ∷ filter (λ (y : Entry). goes_to shards k y.what) entries) (filter (λ (y : Entry). goes_to shards k y.what) entries)) ++ more
    by true later = ap (λ text. event_text x.what ++ text) later ∙ sym (append_assoc (event_text x.what) (part_text shards k entries) more)
    by false later = later

-- known bytes that grow are known
pub appended_known : (old new : Option (List ℕ)) (text more : List ℕ) → old ≡ Some text → Appends old new more → new ≡ Some (text ++ more)
appended_known old None text more e h = absurd (subst (λ x. Appends x None more) e h)
appended_known old (Some bytes) text more e h = ap Some (subst (λ x. Appends x (Some bytes) more) e h)

-- what a writer gives back at its end is what was written
pub kept_known : (old : Option (List ℕ)) (new text : List ℕ) → old ≡ Some text → Keeps old (Some new) → new ≡ text
kept_known old new text e h = subst (λ x. Keeps x (Some new)) e h

-- where a feed stands that has given some entries so far, of which the part is written
pub record IsParting (shards k : ℕ) (start now : FeedView) (writer : Writer (List ℕ)) (old new : ℕ) : Type 0 where
  pub same : IsSameSource start now
  pub unanswered : now.answered ≡ None
  pub between : IsBetween writer
  pub written : text_written Some writer ≡ Some (part_text shards k now.gave)
  pub quiet : new ≡ old

module _ (shards k : ℕ) (start old new : FeedView) (writer : Writer (List ℕ)) (first before after : ℕ) (r : Result (Option Entry) FeedFault) (steps : Steps old r new) (inv : IsParting shards k start old writer first before) where
  -- it stays the same feed
  pub parting_same : IsSameSource start new
  parting_same = record { source = steps.source ∙ (inv.same).source; origin = steps.origin ∙ (inv.same).origin }

  -- one entry more
  pub parting_more : (entry : Entry) (longer : Writer (List ℕ)) → r ≡ Ok (Some entry) → CountsReads old.answered before r after
      → WritesText Some (own_text shards k entry.what) writer longer → IsParting shards k start new longer first after
  parting_more entry longer e counts wrote =
      let g : StepsOn old entry new = subst (λ (x : Result (Option Entry) FeedFault). Answers old x new) e steps.outcome in
      record {
        same = parting_same;
        unanswered = g.still_unanswered;
        between = wrote.between;
        written = appended_known (text_written Some writer) (text_written Some longer) (part_text shards k old.gave) (own_text shards k entry.what) inv.written wrote.appended
            ∙ ap Some (sym (part_more shards k old.gave entry) ∙ ap (part_text shards k) (sym g.gave));
        quiet = subst (λ (x : Result (Option Entry) FeedFault). OnOk x (after ≡ before)) e counts.quiet ∙ inv.quiet;
      }

  -- nothing more
  pub parting_ends : r ≡ Ok None → (held : Result (Option (List ℕ)) FeedFault) → IfOk held (IsHeld (part_text shards k old.gave)) → IfOk held (HoldsPart shards k new)
  parting_ends e (Err fault) h = tt
  parting_ends e (Ok held) h =
      let g : StepsNowhere old new = subst (λ (x : Result (Option Entry) FeedFault). Answers old x new) e steps.outcome in
      record {
        bytes = part_text shards k new.gave;
        part = record { entries = new.gave; told = g.all; part = refl };
        held_is = subst (λ (all : List Entry). IsHeld (part_text shards k all) held) (sym g.gave) h;
      }

  pub parting_quiet : CountsReads old.answered before r after → r ≡ Ok None → after ≡ first
  parting_quiet counts e = subst (λ (x : Result (Option Entry) FeedFault). OnOk x (after ≡ before)) e counts.quiet ∙ inv.quiet

  -- or a fault
  pub parting_fails : (fault : FeedFault) → r ≡ Err fault → ShowsRefusal new fault
  parting_fails fault e =
      let g : StepsBack old fault new = subst (λ (x : Result (Option Entry) FeedFault). Answers old x new) e steps.outcome in
      shows (refusal_of fault) g.refused
    where
      shows : (q : Option Refusal) → IfSome q (λ refusal. new.whole ≡ Some (given_then new.gave (Some refusal))) → IfSome q (λ refusal. (entries : List Entry) × (new.whole ≡ Some (given_then entries (Some refusal))))
      shows None x = tt
      shows (Some refusal) x = (new.gave, x)

  pub parting_rises : CountsReads old.answered before r after → IsErrOf r FeedRead → Rose first after
  parting_rises counts read = by (counts.read read)
    where
      none : {x : FeedFault} → None ≡ Some x → ⊥
      none e = cc

      by : (old.answered ≡ Some FeedRead) ⊎ Rose before after → Rose first after
      by (inl e) = absurd (none (sym inv.unanswered ∙ e))
      by (inr rose) = subst (λ n. Rose n after) inv.quiet rose

pub no_memory_is_no_read : FeedMemory ≡ FeedRead → ⊥
no_memory_is_no_read e = cc
