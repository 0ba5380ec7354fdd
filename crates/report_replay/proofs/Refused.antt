-- Each entry of a journal that a shard may have may come next behind those before it.
use Rattle.std.proofs.Common.{◌≡◌, ◌<◌, ℕ, List, true, length, get_or, take, refl, sym, subst, arith}
use Rattle.std.proofs.lemmas.List.{length-take-le}
use Rattle.std.proofs.lemmas.List.Elements.{All-get_or}
use Rattle.std.proofs.lemmas.Option.{slice_get_read}
use Rattle.stream_base.specs.declared.entry.Entry.{Entry}
use Rattle.stream_base.specs.Model.Journals.{is_entry_within}
use Rattle.shard_core.specs.Shard.{IsJournal, IsNext}

pub next_of : (sources : ℕ) (journal : List Entry) (place : ℕ) (e : Entry) → place < length journal → e ≡ get_or journal place e → IsJournal sources journal → IsNext sources (take place journal) e
next_of sources journal place e within is h = record {
  known = record {
    source = subst (λ (x : Entry). x.source < sources) (sym is) (All-get_or (λ (x : Entry). x.source < sources) journal place e within h.known.known_sources);
    within = subst (λ (x : Entry). is_entry_within x ≡ true) (sym is) (All-get_or (λ (x : Entry). is_entry_within x ≡ true) journal place e within h.known.within);
  };
  goes_on = h.open_before place e (slice_get_read journal (length journal) place e refl within is);
  few = rw (length-take-le place journal (omega (arith, within))) (omega (arith, within, h.short));
}
