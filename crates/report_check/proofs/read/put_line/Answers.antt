-- The line is that of an entry.
use Rattle.std.proofs.Common.{◌≡◌, List, OnOk, Some, false, rules, subst, sym}
use Rattle.stream_base.specs.declared.entry.Entry.{Entry}
use Rattle.stream_base.specs.Model.Journals.{entry_in, is_header}
use Rattle.report_check.proofs.Reading.{after_entry}
use Rattle.report_check.proofs.read.put_line.Goals as goal

pub returns-in-Some : goal.returns-in-Some
returns-in-Some c =
    let header : is_header c.args.line.now ≡ false = search rules in
    let found : entry_in c.args.line.now ≡ Some c.in-Some.field-0 = search rules in
    subst (λ (js : List (List Entry)). OnOk c.put_last.result (c.put_last.new.journals.items ≡ js)) (sym (after_entry c.args.journals.now.items c.args.line.now c.in-Some.field-0 header found)) c.put_last.ensures
