-- A feed logs what its rows give: what it gave and what they have left stay the stream of its source.
use Rattle.std.proofs.Common.{◌≡◌, ◌++◌, ◌⊎◌, ℕ, List, [], ◌∷◌, Option, Some, None, Result, Ok, Err, refl, sym, ap, subst, ◌∙◌, inl, inr, append_assoc, append-nil}
use Rattle.std.specs.Prelude.{option_map, IfSome}
use Rattle.stream_base.specs.declared.entry.Entry.{Entry}
use Rattle.source_feed.specs.EntryLogs.{entries_of}
use Rattle.source_feed.specs.Events.{stream_of}
use Rattle.source_feed.specs.FeedFault.{Ends, feed_fault, refusal_of}
use Rattle.source_feed.specs.FeedState.{FeedState}
use Rattle.source_feed.specs.FeedView.{given_then}
use Rattle.source_feed.specs.FileFeedState.{GivesOn, state_of_rows}
use Rattle.source_feed.specs.Gives.{Gives}
use Rattle.source_feed.specs.Stream.{StaysTold, Stream, only_refused, with_first}
use Rattle.source_feed.specs.declared.feed_fault.FeedFault.{FeedFault}
use Rattle.source_feed.specs.declared.feed_fault.FeedFault.TheVariants.{Read, TooLong, Row, NoMemory as FeedMemory}
use Rattle.source_feed.specs.declared.row_fault.RowFault.{RowFault}
use Rattle.source_feed.specs.declared.row_fault.RowFault.TheVariants.{Refused, NoMemory}

-- what a stream has left behind these entries
abbrev pub Left : Stream → List Entry → Option Stream → Type 0
Left whole gave rest = (left : Stream) × (rest ≡ Some left) × (whole ≡ given_then (gave ++ left.entries) left.refusal)

unmapped : (a : Option RowFault) → option_map feed_fault a ≡ None → a ≡ None
unmapped None e = refl
unmapped (Some fault) e = absurd (cc)

-- only want of memory is shown as such
memory_of : (a : Option RowFault) → option_map feed_fault a ≡ Some FeedMemory → a ≡ Some NoMemory
memory_of None e = absurd (cc)
memory_of (Some (Refused number why)) e = absurd (cc)
memory_of (Some NoMemory) e = refl

no_read : (a : Option RowFault) → option_map feed_fault a ≡ Some Read → ⊥
no_read None e = absurd (cc)
no_read (Some (Refused number why)) e = absurd (cc)
no_read (Some NoMemory) e = absurd (cc)

no_long : (a : Option RowFault) → option_map feed_fault a ≡ Some TooLong → ⊥
no_long None e = absurd (cc)
no_long (Some (Refused number why)) e = absurd (cc)
no_long (Some NoMemory) e = absurd (cc)

on_entry : (whole : Stream) (gave : List Entry) (entry : Entry) (rest rest' : Option Stream) → Left whole gave rest → StaysTold rest (option_map (with_first entry) rest') → Left whole (gave ++ entry ∷ []) rest'
on_entry whole gave entry rest None h t =
    let t' = subst (λ (x : Option Stream). StaysTold x (option_map (with_first entry) None)) h.1 t in absurd (cc)
on_entry whole gave entry rest (Some left') h t =
    let t' : Some (with_first entry left') ≡ Some h.0 = subst (λ (x : Option Stream). StaysTold x (option_map (with_first entry) (Some left'))) h.1 t in
    let is : h.0 ≡ with_first entry left' = cc in (
      left',
      refl,
      h.2 ∙ ap (λ (s : Stream). given_then (gave ++ s.entries) s.refusal) is
          ∙ ap (λ (es : List Entry). given_then es left'.refusal) (sym (append_assoc gave (entry ∷ []) left'.entries)),
    )

on_nothing : (whole : Stream) (gave : List Entry) (rest rest' : Option Stream) → Left whole gave rest → StaysTold rest rest' → Left whole (gave ++ []) rest'
on_nothing whole gave rest rest' h t =
    let t' : rest' ≡ Some h.0 = subst (λ (x : Option Stream). StaysTold x rest') h.1 t in
    rw (append-nil gave) (h.0, t', h.2)

on_refusal : (whole : Stream) (gave : List Entry) (number : ℕ) (why : _) (rest rest' : Option Stream) → Left whole gave rest → Ends (refusal_of (Row number why)) rest rest' → Left whole (gave ++ []) rest'
on_refusal whole gave number why rest rest' h e =
    let e' : Ends (refusal_of (Row number why)) (Some h.0) rest' = subst (λ (x : Option Stream). Ends (refusal_of (Row number why)) x rest') h.1 e in
    rw (append-nil gave) (h.0, e'.1, h.2)

pub gives_on : (source every disorder : ℕ) (bytes : List ℕ) (gave : List Entry) (rows rows' : FeedState RowFault) (answer : Result (Option Entry) FeedFault)
    → GivesOn source every disorder bytes gave rows → Gives refusal_of (state_of_rows rows) answer (state_of_rows rows') → GivesOn source every disorder bytes (gave ++ entries_of answer) rows'
gives_on source every disorder bytes gave rows rows' (Ok (Some entry)) g s = record {
  source_is = s.source ∙ g.source_is;
  known = by_known g.known;
}
  where
    by_known : (rows.answered ≡ Some NoMemory) ⊎ Left (stream_of source every disorder bytes) gave rows.rest → (rows'.answered ≡ Some NoMemory) ⊎ Left (stream_of source every disorder bytes) (gave ++ entry ∷ []) rows'.rest
    by_known (inl e) = let none = unmapped rows.answered s.outcome.unanswered in absurd (cc)
    by_known (inr h) = inr (on_entry (stream_of source every disorder bytes) gave entry rows.rest rows'.rest h s.outcome.given)
gives_on source every disorder bytes gave rows rows' (Ok None) g s = record {
  source_is = s.source ∙ g.source_is;
  known = by_known g.known;
}
  where
    by_known : (rows.answered ≡ Some NoMemory) ⊎ Left (stream_of source every disorder bytes) gave rows.rest → (rows'.answered ≡ Some NoMemory) ⊎ Left (stream_of source every disorder bytes) (gave ++ []) rows'.rest
    by_known (inl e) = let none = unmapped rows.answered s.outcome.unanswered in absurd (cc)
    by_known (inr h) = inr (on_nothing (stream_of source every disorder bytes) gave rows.rest rows'.rest h s.outcome.kept)
gives_on source every disorder bytes gave rows rows' (Err FeedMemory) g s = record {
  source_is = s.source ∙ g.source_is;
  known = inl (memory_of rows'.answered s.outcome.answered);
}
gives_on source every disorder bytes gave rows rows' (Err Read) g s = absurd (no_read rows'.answered s.outcome.answered)
gives_on source every disorder bytes gave rows rows' (Err TooLong) g s = absurd (no_long rows'.answered s.outcome.answered)
gives_on source every disorder bytes gave rows rows' (Err (Row number why)) g s = record {
  source_is = s.source ∙ g.source_is;
  known = by_known g.known;
}
  where
    by_known : (rows.answered ≡ Some NoMemory) ⊎ Left (stream_of source every disorder bytes) gave rows.rest → (rows'.answered ≡ Some NoMemory) ⊎ Left (stream_of source every disorder bytes) (gave ++ []) rows'.rest
    by_known (inl e) =
        let again : Row number why ≡ FeedMemory = subst (λ (a : Option RowFault). IfSome (option_map feed_fault a) (λ before. Row number why ≡ before)) e s.outcome.again in
        absurd (cc)
    by_known (inr h) = inr (on_refusal (stream_of source every disorder bytes) gave number why rows.rest rows'.rest h s.outcome.refused)
