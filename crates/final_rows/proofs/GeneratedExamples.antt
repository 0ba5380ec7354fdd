-- What the definitions give of small generated inputs, from the generator to the text of the summary.
use Rattle.std.proofs.Common.{◌≡◌, refl}
use Rattle.std.specs.Prelude.{codes}
use Rattle.std.specs.Fmt.{digits}
use Rattle.stream_base.specs.Model.Final.{final_rows, summary_of}
use Rattle.stream_base.specs.Model.Opened.{all_opened}
use Rattle.source_feed.specs.Generated.{made_definitions, made_sources, state_after, told_of_indices}

one_tuple : summary_of 1 5 (final_rows made_definitions (made_sources 0 1 1))
    ≡ codes "made 1\nwindow 0 1 1\n+ 0 0 64 1 742 k25\nwindow 1 1 1\n+ 1 0 128 1 742 k25\nwindow 2 1 1\n+ 2 15 55 1 1 k25\nwindow 3 1 1\n+ 3 0 end 1 742 k25\nwindow 4 0 0\nend\n"
unfolding all_opened state_after told_of_indices digits
one_tuple = refl

two_sources : summary_of 20 5 (final_rows made_definitions (made_sources 7 20 2))
    ≡ codes "made 20\nwindow 0 20 20\n+ 0 256 320 1 229 k84\nwindow 1 66 68\n+ 1 288 416 1 229 k84\nwindow 2 20 20\n+ 2 301 341 1 1 k84\nwindow 3 18 20\n+ 3 0 end 1 229 k84\nwindow 4 0 0\nend\n"
unfolding all_opened state_after told_of_indices digits
two_sources = refl
