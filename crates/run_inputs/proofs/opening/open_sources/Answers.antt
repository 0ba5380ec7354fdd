-- One source more is opened.
use Rattle.std.proofs.Common.{◌≡◌, ◌∙◌, ◌<◌, ◌+◌, ℕ, List, [], ◌∷◌, length, length-append, map, string_bytes, get_or, take, Option, ap, arith, inl, refl, sym, subst, append-nil}
use Rattle.std.proofs.lemmas.List.{get_or-map, length-map, length-take-le}
use Rattle.run_inputs.specs.Opening.{AreUnread, IsUnread}
use Rattle.run_inputs.proofs.Opened.{more_in_order, unread_more}
use Rattle.run_inputs.proofs.Returned.{unopened, unopened_in_order}
use Rattle.run_inputs.proofs.opening.open_sources.Goals as goal

pub loop-i-preserved : goal.loop-i-preserved
loop-i-preserved g c =
    let f = g.F.Files in
    let reads = g.F.Input.Source.reads in
    let word = g.F.Input.Source.told in
    let start = c.args.files.now in
    let base = length (f.asked start) in
    let told = f.told start in
    let names = map string_bytes c.args.names.now in
    let feeds = c.loop-i.feeds.items in
    let feed = c.in-Ok-open_source.feed in
    let name = c.as_str.result.now in
    let i = c.loop-i.i in
    let inv = c.loop-i.invariant in
    let opened = c.open_source.ensures in
    let items = c.push_reserved.ensures.items in
    let inside : i < length names = omega (arith, c.loop-i-test.true, length-map c.args.names.now string_bytes) in
    let at : get_or names i [] ≡ name = get_or-map string_bytes c.args.names.now i c.index-names-i.result [] c.loop-i-test.true ∙ ap string_bytes (sym c.index-names-i.is) ∙ sym c.as_str.ensures.value in
    let taken = length-take-le i names (omega (arith, inside)) in
    let size : length (f.asked c.loop-i.files) ≡ base + i = ap length inv.in_order ∙ length-append (f.asked start) (take i names) ∙ ap (λ m. base + m) taken in
    let unread = subst (λ n. IsUnread reads word n (told name) i c.args.defs.now feed) size (subst (λ (o : Option (List ℕ)). IsUnread reads word (length (f.asked c.loop-i.files)) o i c.args.defs.now feed) (inv.same name) c.in-Ok-open_source.ensures.unread) in
    record {
      many = let n = inv.many in let more = ap length items in omega (arith, n, more, length-append feeds (feed ∷ []));
      room = c.push_reserved.ensures.capacity ∙ inv.room;
      in_order = more_in_order (f.asked start) (f.asked c.loop-i.files) (f.asked c.open_source.new.files) names i name inside at inv.in_order opened.asked;
      unread = subst (λ (fs : List _). AreUnread reads word base told names c.args.defs.now fs) (sym items) (unread_more reads word base told names c.args.defs.now feeds feed i name inv.many at inv.unread unread);
      earlier = λ k l. opened.others k (λ e. omega (arith, e, size, l)) ∙ inv.earlier k l;
      same = λ which. opened.same which ∙ inv.same which;
    }

pub loop-i-init : goal.loop-i-init
loop-i-init g c = record {
  many = ap length c.in-Ok.ensures.items;
  room = c.in-Ok.ensures.exact;
  in_order = sym (append-nil (g.F.Files.asked c.args.files.now));
  unread = λ i x l. absurd (let no : ⊥ = omega (arith, l, ap length c.in-Ok.ensures.items) in no);
  earlier = λ k l. refl;
  same = λ which. refl;
}

pub returns-in-Err-open_source-clause-files : goal.returns-in-Err-open_source-clause-files
returns-in-Err-open_source-clause-files g c =
    let f = g.F.Files in
    let names = map string_bytes c.args.names.now in
    let i = c.loop-i.i in
    let inv = c.loop-i.invariant in
    let opened = c.open_source.ensures in
    let at : get_or names i [] ≡ c.as_str.result.now = get_or-map string_bytes c.args.names.now i c.index-names-i.result [] c.loop-i-test.true ∙ ap string_bytes (sym c.index-names-i.is) ∙ sym c.as_str.ensures.value in
    unopened_in_order f.asked f.came f.told g.F.Input.Source.reads g.F.Input.Source.told names c.args.defs.now c.loop-i.feeds.items c.args.files.now c.loop-i.files c.open_source.new.files c.close_feeds.new.files i c.as_str.result.now
    inv.many (omega (arith, c.loop-i-test.true, length-map c.args.names.now string_bytes)) at inv.in_order inv.unread inv.earlier inv.same opened.asked c.in-Err-open_source.ensures.refused opened.others opened.same c.close_feeds.ensures

pub returns-in-Err-open_source-clause-stopped : goal.returns-in-Err-open_source-clause-stopped
returns-in-Err-open_source-clause-stopped g c =
    let f = g.F.Files in
    let names = map string_bytes c.args.names.now in
    let i = c.loop-i.i in
    let inv = c.loop-i.invariant in
    let opened = c.open_source.ensures in
    let at : get_or names i [] ≡ c.as_str.result.now = get_or-map string_bytes c.args.names.now i c.index-names-i.result [] c.loop-i-test.true ∙ ap string_bytes (sym c.index-names-i.is) ∙ sym c.as_str.ensures.value in
    inl (
      i,
      refl,
      unopened f.asked f.came f.told g.F.Input.Source.reads g.F.Input.Source.told names c.args.defs.now c.loop-i.feeds.items c.args.files.now c.loop-i.files c.open_source.new.files c.close_feeds.new.files i c.as_str.result.now
          inv.many (omega (arith, c.loop-i-test.true, length-map c.args.names.now string_bytes)) at inv.in_order inv.unread inv.earlier inv.same opened.asked c.in-Err-open_source.ensures.refused opened.others opened.same c.close_feeds.ensures,
    )
