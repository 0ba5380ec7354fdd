-- What some kinds of windows are written as, computed.
use Rattle.std.proofs.Common.{◌≡◌, codes, refl}
use Rattle.std.specs.Fmt.{digits}
use Rattle.stream_base.specs.declared.kind.Kind.TheVariants.{Tumbling, Sliding, Session, Marks, Events}
use Rattle.part_text.specs.DefinitionsText.{kind_text}

tumbling_text : kind_text (Tumbling 10) ≡ codes "kind = \"tumbling\"\nlength = 10\n"
unfolding digits
tumbling_text = refl

sliding_text : kind_text (Sliding 4 2) ≡ codes "kind = \"sliding\"\nlength = 4\nslide = 2\n"
unfolding digits
sliding_text = refl

session_text : kind_text (Session 30) ≡ codes "kind = \"session\"\ngap = 30\n"
unfolding digits
session_text = refl

marks_text : kind_text Marks ≡ codes "kind = \"marks\"\n"
marks_text = refl

events_text : kind_text (Events 3) ≡ codes "kind = \"events\"\ncount = 3\n"
unfolding digits
events_text = refl
