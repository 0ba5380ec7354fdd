-- Reading the windows one after the other, as a loop does, and the limits of those that were read.
use Rattle.std.proofs.Common.{◌≡◌, ◌≤◌, ℕ, ◌+◌, leb, ltb, cond, true, false, not, List, [], ◌∷◌, ◌++◌, length, Option, None, Some, Result, Ok, Err, refl, sym, ap, subst, ◌∙◌, append_assoc, option_map, arith, le-leb}
use Rattle.std.proofs.lemmas.Bool.Decides.{nat_tests}
use Rattle.std.proofs.lemmas.List.{append-nil}
use Rattle.std.proofs.lemmas.Option.{cond_some}
use Rattle.std.specs.List.{prefix_len, position}
use Rattle.std.specs.Option.{ok_or, option_and_then}
use Rattle.stream_base.specs.declared.def.Def.{Def}
use Rattle.stream_base.specs.declared.func.Func.{Func}
use Rattle.stream_base.specs.declared.kind.Kind.{Kind}
use Rattle.stream_base.specs.declared.limits.TheConstants.{TIME_MAX, EVERY_MAX, WINDOWS_MAX}
use Rattle.stream_base.specs.Limits.{is_beyond, definitions_of, limit_fault}
use Rattle.stream_base.specs.Kinds.{is_kind_within}
use Rattle.toml.specs.Data.{Data}
use Rattle.window_defs.specs.declared.defs_fault.DefsFault.{DefsFault}
use Rattle.window_defs.specs.declared.defs_fault.DefsFault.TheVariants.{Long, Toml, Shape, Many, Limit, NoMemory}
use Rattle.window_defs.specs.Windows.{raw_window_of, natural_kind, within_limits, kind_of, def_of}
use Rattle.window_defs.specs.Reading.{◌>>=◌, Refuses, window_at, windows_from}

-- what refuses one reading refuses another that is refused alike
pub refuses_too : {X Y : Type 0} (fault : DefsFault) (reading : Result X DefsFault) (other : Result Y DefsFault) → (reading ≡ Err fault → other ≡ Err fault) → Refuses fault reading → Refuses fault other
refuses_too Long reading other h r = h r
refuses_too Toml reading other h r = h r
refuses_too (Shape i) reading other h r = h r
refuses_too Many reading other h r = h r
refuses_too (Limit i) reading other h r = h r
refuses_too NoMemory reading other h r = tt

-- the windows read before, and those still read
abbrev pub with_front : List Def → Result (List Def) DefsFault → Result (List Def) DefsFault
with_front front read = read >>= λ rest. Ok (front ++ rest)

regroup : (front : List Def) (window : Def) (read : Result (List Def) DefsFault) → with_front front (read >>= λ rest. Ok (window ∷ rest)) ≡ with_front (front ++ window ∷ []) read
regroup front window (Ok rest) = ap Ok (sym (append_assoc front (window ∷ []) rest))
regroup front window (Err fault) = refl

pub goes_on : (front : List Def) (i : ℕ) (value : Data) (values : List Data) (window : Def) (all : Result (List Def) DefsFault)
    → window_at i value ≡ Ok window → with_front front (windows_from i (value ∷ values)) ≡ all → with_front (front ++ window ∷ []) (windows_from (i + 1) values) ≡ all
goes_on front i value values window all h so_far =
    let one : with_front front (windows_from i (value ∷ values)) ≡ with_front (front ++ window ∷ []) (windows_from (i + 1) values) = rw h (regroup front window (windows_from (i + 1) values)) in
    sym one ∙ so_far

pub ends : (fault : DefsFault) (front : List Def) (i : ℕ) (value : Data) (values : List Data) (all : Result (List Def) DefsFault)
    → Refuses fault (window_at i value) → with_front front (windows_from i (value ∷ values)) ≡ all → Refuses fault all
ends fault front i value values all refused so_far =
    refuses_too fault (window_at i value) all (λ h. sym so_far ∙ (let one : with_front front (windows_from i (value ∷ values)) ≡ Err fault = rw h refl in one)) refused

pub is_done : (front : List Def) (i : ℕ) (all : Result (List Def) DefsFault) → with_front front (windows_from i []) ≡ all → all ≡ Ok front
is_done front i all so_far = sym so_far ∙ ap Ok (append-nil front)

bind_ok : {A B : Type 0} (read : Result A DefsFault) (f : A → Result B DefsFault) (y : B) → (read >>= f) ≡ Ok y → (x : A) × (read ≡ Ok x) × (f x ≡ Ok y)
bind_ok (Ok x) f y h = (x, refl, h)
bind_ok (Err fault) f y h = absurd (cc h)

pub ok_from : {A : Type 0} (o : Option A) (fault : DefsFault) (x : A) → ok_or o fault ≡ Ok x → o ≡ Some x
ok_from (Some y) fault x h = grind (arith, h)
ok_from None fault x h = absurd (cc h)

kept : (kind found : Kind) → within_limits kind ≡ Some found → is_kind_within found ≡ true
kept kind found h =
    let (within, same) = cond_some (is_kind_within kind) kind found h in
    rw same at within

kind_kept : (natural : Option Kind) (kind : Kind) → option_and_then within_limits natural ≡ Some kind → is_kind_within kind ≡ true
kind_kept None kind h = absurd (cc h)
kind_kept (Some found) kind h = kept found kind h

made : (o : Option Kind) (func : Func) (w : Def) → option_and_then (λ kind. Some (record { kind = kind; func = func })) o ≡ Some w → o ≡ Some w.kind
made None func w h = absurd (cc h)
made (Some kind) func w h = ap (option_map (λ (x : Def). x.kind)) h

window_kept : (i : ℕ) (value : Data) (w : Def) → window_at i value ≡ Ok w → is_beyond w ≡ false
window_kept i value w h =
    let (raw, shaped, limited) = bind_ok (ok_or (raw_window_of value) (Shape (Some i))) (λ raw. ok_or (def_of raw) (Limit (Some i))) w h in
    let defined : def_of raw ≡ Some w = ok_from (def_of raw) (Limit (Some i)) w limited in
    let within : is_kind_within w.kind ≡ true = kind_kept (natural_kind raw.kind) w.kind (made (kind_of raw.kind) raw.func w defined) in
    rw within refl

-- windows that are read are within their limits, one from each element
windows_kept : (i : ℕ) (values : List Data) (ws : List Def) → windows_from i values ≡ Ok ws → (prefix_len (λ w. not (is_beyond w)) ws ≡ length ws) × (length ws ≡ length values)
windows_kept i [] [] h = (refl, refl)
windows_kept i [] (w ∷ ws) h = absurd (cc h)
windows_kept i (value ∷ values) ws h =
    let (w, first, more) = bind_ok (window_at i value) (λ window. windows_from (i + 1) values >>= λ rest. Ok (window ∷ rest)) ws h in
    let (rest, others, all) = bind_ok (windows_from (i + 1) values) (λ (rest : List Def). Ok (w ∷ rest)) ws more in
    let same : w ∷ rest ≡ ws = grind (arith, all) in
    let (passes, len) = windows_kept (i + 1) values rest others in
    let counted : prefix_len (λ x. not (is_beyond x)) (w ∷ rest) ≡ length (w ∷ rest) = rw (window_kept i value w first, passes) (omega arith) in
    let as_many : length (w ∷ rest) ≡ length (value ∷ values) = rw len refl in
    let Kept : List Def → Type 0 = λ xs. (prefix_len (λ x. not (is_beyond x)) xs ≡ length xs) × (length xs ≡ length (value ∷ values)) in
    subst Kept same (counted, as_many)

none_before : (n : ℕ) → cond (ltb n n) (Some n) None ≡ None
none_before n = grind (arith, nat_tests)

-- definitions of windows that are read pass no limit
pub no_fault : (values : List Data) (ws : List Def) (lateness every disorder : ℕ) → windows_from 0 values ≡ Ok ws → 1 ≤ length values → length values ≤ WINDOWS_MAX
    → lateness ≤ TIME_MAX → every ≤ EVERY_MAX → disorder ≤ TIME_MAX → limit_fault (definitions_of ws lateness every disorder) ≡ None
no_fault values ws lateness every disorder h some few l e d =
    let (passes, len) = windows_kept 0 values ws h in
    let none : position is_beyond ws ≡ None = rw passes (none_before (length ws)) in
    let least : leb 1 (length ws) ≡ true = le-leb 1 (length ws) (omega arith) in
    let most : leb (length ws) WINDOWS_MAX ≡ true = le-leb (length ws) WINDOWS_MAX (omega arith) in
    rw (least, most, le-leb lateness TIME_MAX l, le-leb every EVERY_MAX e, le-leb disorder TIME_MAX d, none) refl
