-- The senders of a lane in a row.
use Rattle.std.proofs.Common.{◌≡◌, ◌⊎◌, ℕ, zero, suc, List, [], ◌∷◌, ◌++◌, length, map, slice_get, Some, sym, refl, ap, inl, inr, ⊎_elim, ◌∙◌, ◌+◌, length-append, arith}
use Rattle.std.proofs.lemmas.List.{length-map}
use Rattle.mail_lane.specs.Lane.{LaneId, SenderState, AreNumbered}

-- the item that comes after those that came
pub item_after : {A : Type 0} (came : List A) (x : A) (more : List A) → slice_get (came ++ x ∷ more) (length came) ≡ Some x
item_after [] x more = refl
item_after (y ∷ ys) x more = item_after ys x more

-- an item of a list that is longer by one
item_of-push : {A : Type 0} (xs : List A) (y : A) (k : ℕ) (z : A) → slice_get (xs ++ y ∷ []) k ≡ Some z → (slice_get xs k ≡ Some z) ⊎ ((k ≡ length xs) × (y ≡ z))
item_of-push [] y zero z e = inr (refl, cc e)
item_of-push [] y (suc k) z e = absurd (cc e)
item_of-push (x ∷ xs) y zero z e = inl e
item_of-push (x ∷ xs) y (suc k) z e = ⊎_elim (λ t. inl t) (λ t. inr (ap suc t.0, t.1)) (item_of-push xs y k z e)

-- with the sender of the next number, each sender's number is its place
pub placed_push : {M : Type 0} (xs : List (SenderState M)) (y : SenderState M) (lane : LaneId)
    → AreNumbered lane xs → y.lane ≡ lane → y.number ≡ length xs → AreNumbered lane (xs ++ y ∷ [])
placed_push {M} xs y lane placed is numbered k sender e =
    ⊎_elim (λ (old : slice_get xs k ≡ Some sender). placed k sender old)
    (λ (last : (k ≡ length xs) × (y ≡ sender)). (ap (λ (s : SenderState M). s.lane) (sym last.1) ∙ is, ap (λ (s : SenderState M). s.number) (sym last.1) ∙ numbered ∙ sym last.0))
    (item_of-push xs y k sender e)

-- how many are back, once these came back too
pub length_back : {A B : Type 0} (back : List B) (came : List A) (f : A → B) → length back + length came ≡ length (back ++ map f came)
length_back back came f = omega (arith, length-append back (map f came), length-map came f)
