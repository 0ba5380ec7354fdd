-- The entries that feeds gave: of their sources, within the limits, and closed by their ends.
use Rattle.std.proofs.Common.{◌≡◌, ◌∙◌, ◌<◌, ◌≤◌, ◌+◌, ◌++◌, ℕ, Bool, true, false, List, [], ◌∷◌, All, length, get_or, Option, Some, None, Result, Ok, Err, sym, subst, ap, arith, ⊎_elim, length-append}
use Rattle.std.specs.Prelude.{IfOk}
use Rattle.std.proofs.lemmas.Bool.{cases_lt, false≢true}
use Rattle.std.proofs.lemmas.List.{get_or_append_left, get_or_push, get_or_read}
use Rattle.std.proofs.lemmas.List.Elements.{All-nil, All-push}
use Rattle.std.proofs.lemmas.Option.{get_or_from_slice_get, slice_get_within}
use Rattle.stream_base.specs.Limits.{Definitions}
use Rattle.stream_base.specs.declared.entry.Entry.{Entry}
use Rattle.stream_base.specs.Model.Journals.{is_entry_within}
use Rattle.stream_base.specs.Model.What.{is_end}
use Rattle.outside.specs.Outside.{Reads}
use Rattle.source_feed.specs.FeedView.{Answers, FeedView, Steps, StepsNowhere, StepsOn}
use Rattle.source_feed.specs.FileFeedState.{FileFeedState}
use Rattle.source_feed.specs.declared.feed_fault.FeedFault.{FeedFault}
use Rattle.emission_text.specs.declared.fault.Fault.{Fault}
use Rattle.live_board.specs.Watched.{AreEntriesOf}
use Rattle.run_inputs.specs.Opening.{AreUnread}
use Rattle.run_inputs.specs.Outside.{Telling}
use Rattle.run_inputs.specs.Reading.{AreEntries, AreEntriesFrom}
use Rattle.run_inputs.proofs.Draining.{AreDraining, IsDraining}
use Rattle.run_inputs.proofs.Opened.{some_of}

-- ---- one feed
-- the entries given so far are of the feed's source, each within its limits; an end among them is the last, and the feed has ended with it
pub record AreGivenBy (source : ℕ) (ended : Bool) (given : List Entry) : Type 0 where
  pub own : All (λ e. e.source ≡ source) given
  pub within : All (λ e. is_entry_within e ≡ true) given
  pub ends : (n : ℕ) (d : Entry) → n < length given → is_end (get_or given n d).what ≡ true → (n + 1 ≡ length given) × (ended ≡ true)
  pub last : ended ≡ true → (n : ℕ) (d : Entry) → n + 1 ≡ length given → is_end (get_or given n d).what ≡ true
  pub some : ended ≡ true → 1 ≤ length given

-- none was given yet
pub no_entries : (source : ℕ) (ended : Bool) (given : List Entry) → given ≡ [] → ended ≡ false → AreGivenBy source ended given
no_entries source ended given none running = subst (AreGivenBy source ended) (sym none) record {
  own = All-nil (λ (e : Entry). e.source ≡ source);
  within = All-nil (λ (e : Entry). is_entry_within e ≡ true);
  ends = λ n d l is. absurd (let no : ⊥ = omega (arith, l) in no);
  last = λ e. absurd (false≢true (sym running ∙ e));
  some = λ e. absurd (false≢true (sym running ∙ e));
}

-- one more is given
pub one_entry_more : (source : ℕ) (before after : Bool) (given : List Entry) (entry : Entry) → AreGivenBy source before given → before ≡ false
    → entry.source ≡ source → is_entry_within entry ≡ true → after ≡ is_end entry.what → AreGivenBy source after (given ++ entry ∷ [])
one_entry_more source before after given entry are running own within end = record {
  own = All-push (λ (e : Entry). e.source ≡ source) given entry are.own own;
  within = All-push (λ (e : Entry). is_entry_within e ≡ true) given entry are.within within;
  ends = λ n d l is.
      ⊎_elim
      (λ (less : n < length given).
      absurd (false≢true (sym running ∙ (are.ends n d less (ap (λ (e : Entry). is_end e.what) (sym (get_or_append_left given (entry ∷ []) d n less)) ∙ is)).1)))
      (λ ge.
      let here : length given ≡ n = omega (arith, ge, l, length-append given (entry ∷ [])) in (
        omega (arith, here, length-append given (entry ∷ [])),
        end ∙ ap (λ (e : Entry). is_end e.what) (sym (get_or_push given entry d n here)) ∙ is,
      ))
      (cases_lt n (length given));
  last = λ e n d at.
      let here : length given ≡ n = omega (arith, at, length-append given (entry ∷ [])) in
      ap (λ (x : Entry). is_end x.what) (get_or_push given entry d n here) ∙ sym end ∙ e;
  some = λ e. omega (arith, length-append given (entry ∷ []));
}

-- all were given
pub all_entries : (source : ℕ) (ended : Bool) (given : List Entry) → AreGivenBy source ended given → ended ≡ true → AreEntriesOf source given
all_entries source ended given are e = record {
  some = are.some e;
  own = are.own;
  within = are.within;
  ends = λ n x is. (
    λ end. (are.ends n x (slice_get_within given n x is) (ap (λ (y : Entry). is_end y.what) (get_or_from_slice_get given n x x is) ∙ end)).0,
    λ at. ap (λ (y : Entry). is_end y.what) (sym (get_or_from_slice_get given n x x is)) ∙ are.last e n x at,
  );
}

module _ (start old new : FeedView) (given : List Entry) (first before : ℕ) (r : Result (Option Entry) FeedFault) (steps : Steps old r new)
    (inv : IsDraining start old given first before) (are : AreGivenBy start.source old.ended given) where
  -- a feed that gives one entry more
  pub gives_more : (entry : Entry) → r ≡ Ok (Some entry) → AreGivenBy start.source new.ended (given ++ entry ∷ [])
  gives_more entry e =
      let g : StepsOn old entry new = subst (λ (x : Result (Option Entry) FeedFault). Answers old x new) e steps.outcome in
      one_entry_more start.source old.ended new.ended given entry are g.running (g.own ∙ (inv.same).source) g.within g.end

  -- and one that gives nothing more
  pub gave_all : r ≡ Ok None → AreEntriesOf start.source given
  gave_all e =
      let g : StepsNowhere old new = subst (λ (x : Result (Option Entry) FeedFault). Answers old x new) e steps.outcome in
      all_entries start.source old.ended given are g.ended

-- ---- feeds, one after another
module _ {S : Type 0} (reads : S → Reads) (word : S → Option (List ℕ)) where
  -- the entries of one feed more
  pub entries_more : (old now : List (FileFeedState S)) (all : List (List Entry)) (place : ℕ) (x : FileFeedState S) → place < length now → x ≡ get_or now place x → AreDraining reads word old now all place
      → AreEntriesFrom old all → (entries : List Entry) → AreEntriesOf x.source entries → AreEntriesFrom old (all ++ entries ∷ [])
  entries_more old now all place x inside is inv before entries own i f l =
      ⊎_elim
      (λ (less : i < length all). subst (λ (es : List Entry). AreEntriesOf (get_or old i f).source es) (sym (get_or_append_left all (entries ∷ []) [] i less)) (before i f less))
      (λ ge.
      let here : length all ≡ i = omega (arith, ge, l, length-append all (entries ∷ [])) in
      let at : place ≡ i = sym inv.count ∙ here in
      let stood : get_or old place f ≡ x = sym (inv.untouched place f (omega arith)) ∙ sym (get_or_read now place x inside is f) in
      subst (λ (es : List Entry). AreEntriesOf (get_or old i f).source es) (sym (get_or_push all entries [] i here))
      (subst (λ (k : ℕ). AreEntriesOf (get_or old k f).source entries) at (subst (λ (y : FileFeedState S). AreEntriesOf y.source entries) (sym stood) own)))
      (cases_lt i (length all))

  -- the feeds are those of the sources, in their order
  of_sources : (base : ℕ) (told : Telling) (names : List (List ℕ)) (d : Definitions) (feeds : List (FileFeedState S)) → AreUnread reads word base told names d feeds
      → (all : List (List Entry)) → length all ≡ length feeds → AreEntriesFrom feeds all → AreEntries all
  of_sources base told names d feeds unread all many h i l =
      let m : i < length feeds = omega (arith, l, many) in
      let f = some_of feeds i m in
      subst (λ (n : ℕ). AreEntriesOf n (get_or all i [])) (ap (λ (x : FileFeedState S). x.source) (unread i f m).feed_is) (h i f l)

  pub entries_of : (base : ℕ) (told : Telling) (names : List (List ℕ)) (d : Definitions) (feeds : List (FileFeedState S)) → AreUnread reads word base told names d feeds
      → {T : Type 0} (items : T → List (List Entry)) (size : T → ℕ) (r : Result T Fault) → ((t : T) → size t ≡ length (items t))
      → IfOk r (λ t. size t ≡ length feeds) → IfOk r (λ t. AreEntriesFrom feeds (items t)) → IfOk r (λ t. AreEntries (items t))
  entries_of base told names d feeds unread items size (Ok t) same whole h = of_sources base told names d feeds unread (items t) (sym (same t) ∙ whole) h
  entries_of base told names d feeds unread items size (Err fault) same whole h = tt
