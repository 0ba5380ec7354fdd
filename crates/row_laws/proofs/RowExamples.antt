-- Worked texts, read by the checker.
use Rattle.std.proofs.Common.{◌≡◌, [], ◌∷◌, refl, List, map}
use Rattle.std.specs.Prelude.{codes, pos, negsuc}
use Rattle.std.specs.Fmt.{digits}
use Rattle.stream_base.specs.declared.row.Row.{Row}
use Rattle.stream_base.specs.declared.shown.Shown.TheVariants.{Whole, Ratio}
use Rattle.row_laws.specs.Told.{Reading, ToldShard, read_lines, read_text, refused, tells}

-- the rows of each shard, where a text tells them
rows_in : Reading → List (List Row)
rows_in (refused number) = []
rows_in (tells shards) = map (λ (s : ToldShard). s.rows) shards

-- an update stands in its row's place, a retraction takes its row, keys come in the order of their bytes, and a key may have spaces
first_form : rows_in (read_text (codes "shard 0\nj 0 t 1 5 b c\nj 0 w 10\n+ 0 0 10 1 5/1 b c\n+ 1 0 end 1 5/1 b c\nj 0 t 2 4 b c\n~ 0 0 10 2 9/2 b c\nj 0 t 3 -7 a\n+ 0 0 10 1 -7/1 a\nj 0 m 4 b c\n- 1 0 end b c\n+ 1 4 end 1 -1/1 b c\nshard 1\nj 0 w 10\nend\n"))
    ≡ (record { window = 0; key = codes "a"; low = 0; high = 10; number = 1; shown = Ratio (negsuc 6) 1 }
    ∷ record { window = 0; key = codes "b c"; low = 0; high = 10; number = 2; shown = Ratio (pos 9) 2 }
    ∷ record { window = 1; key = codes "b c"; low = 4; high = 4611686018427387904; number = 1; shown = Ratio (negsuc 0) 1 } ∷ []) ∷ [] ∷ []
unfolding rows_in digits read_text read_lines
first_form = refl

second_form : rows_in (read_text (codes "report 2\nshard 0\nj 0 t 1 5 b\n+ 0 0 10 1 5 b\nj 0 t 2 4 b\n~ 0 0 10 2 9 1 5 b\nj 0 t 3 4 b\n- 0 0 10 2 9 b\n+ 0 0 12 3 13 b\nend\n"))
    ≡ (record { window = 0; key = codes "b"; low = 0; high = 12; number = 3; shown = Whole (pos 13) } ∷ []) ∷ []
unfolding rows_in digits read_text read_lines
second_form = refl

-- a text that is cut off, or has a fault's line in the place of an entry's
cut_off : read_text (codes "shard 0\nj 0 w 10\n+ 0 0 10 1 5 b\n") ≡ refused 4
unfolding digits read_text read_lines
cut_off = refl

fault_line : read_text (codes "shard 0\nfault read a.csv\nend\n") ≡ refused 2
unfolding digits read_text read_lines
fault_line = refl

change_under_no_entry : read_text (codes "shard 0\n+ 0 0 10 1 5 b\nend\n") ≡ refused 2
unfolding digits read_text read_lines
change_under_no_entry = refl

shard_left_out : read_text (codes "report 2\nshard 0\nshard 2\nend\n") ≡ refused 3
unfolding digits read_text read_lines
shard_left_out = refl

retraction_of_nothing : read_text (codes "shard 0\nj 0 w 10\n- 0 0 10 b\nend\n") ≡ refused 3
unfolding digits read_text read_lines
retraction_of_nothing = refl

update_of_nothing : read_text (codes "shard 0\nj 0 w 10\n~ 0 0 10 1 5 b\nend\n") ≡ refused 3
unfolding digits read_text read_lines
update_of_nothing = refl

emitted_twice : read_text (codes "shard 0\nj 0 w 10\n+ 0 0 10 1 5 b\nj 0 e\n+ 0 0 10 1 5 b\nend\n") ≡ refused 5
unfolding digits read_text read_lines
emitted_twice = refl

-- a number that fits no row, a last line that is cut off by one byte, and a line behind the last
too_long : read_text (codes "shard 0\nj 0 w 10\n+ 4294967296 0 10 1 5 b\nend\n") ≡ refused 3
unfolding digits read_text read_lines
too_long = refl

cut_by_one : read_text (codes "shard 0\nend") ≡ refused 2
unfolding digits read_text read_lines
cut_by_one = refl

more_behind : read_text (codes "shard 0\nend\nend\n") ≡ refused 3
unfolding digits read_text read_lines
more_behind = refl

nothing_at_all : read_text [] ≡ refused 1
unfolding digits read_text read_lines
nothing_at_all = refl
