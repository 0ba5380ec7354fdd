-- The text that is told is the report of the journals in the bytes.
use Rattle.std.proofs.Common.{◌≡◌, length, rules, sym}
use Rattle.std.proofs.lemmas.List.{length-map}
use Rattle.stream_base.specs.Model.Text.{report_of}
use Rattle.report_check.specs.Findings.{lists_of}
use Rattle.report_lines.specs.Forms.{form_of}
use Rattle.report_check.proofs.Judging.{told_report}
use Rattle.report_check.proofs.check.check_report_by.Goals as goal

pub returns : goal.returns
returns g c =
    let d = c.args.defs.now in
    let sources = c.args.sources.now in
    let journals = c.in_ok-journals.journals.items in
    let is : c.deref-2.result.now ≡ report_of (form_of c.form_of_text-form.result) d (length sources) journals = search rules in
    c.judge.ensures d (told_report d (length sources) (lists_of sources) c.args.report.now c.deref-2.result.now (form_of c.form_of_text-form.result) journals (sym (length-map sources (λ v. v.items))) c.form_of_text-form.ensures c.in_ok-journals.ensures is)
