-- The forms of reports.
use Rattle.stream_base.specs.Model.Text.{Form, report_1, report_2}
use Rattle.report_lines.specs.declared.report_form.ReportForm.{ReportForm}
use Rattle.report_lines.specs.declared.report_form.ReportForm.TheVariants.{One, Two}

-- the form of a report
abbrev pub form_of : ReportForm → Form
form_of One = report_1
form_of Two = report_2
