-- The rule of a lane's queue: what each sender sent is what was taken of it, and then what the queue holds of it.
use Rattle.std.specs.Prelude.{◌≡◌, ◌+◌, ◌<◌, ◌≤◌, ◌∷◌, ◌++◌, ℕ, List, [], length, Option, Some, None}
use mathlib.Core.Option.{some}
use lib.ListN.{get_elem?}
use Rattle.mail_lane.specs.declared.letter.Letter.{Letter}
use Rattle.mail_lane.specs.declared.role.Role.{Role}
use Rattle.mail_lane.specs.declared.role.Role.TheVariants.{Sending, Receiving, Spent}
use Rattle.mail_lane.specs.Lane.{messages_of, sent_by}

-- the receiver's pass, the pass of each sender that is out, what each sender has sent, and what was taken
pub record History (M : Type 0) : Type 0 where
  pub reader : ℕ
  pub seat : ℕ → Option ℕ
  pub sent : ℕ → List M
  pub taken : List (Letter M)

module _ {M : Type 0} where
  -- the receiver before any sender was made
  abbrev pub unopened : Role M
  unopened = Receiving 0 [] []

  abbrev pub spent_role : Role M
  spent_role = Spent

  -- what a sender sent
  abbrev pub sent_of : Role M → List M
  sent_of (Sending number sent) = sent
  sent_of _ = []

  -- how many senders a receiver has made
  abbrev pub senders_of : Role M → ℕ
  senders_of (Receiving senders taken collected) = senders
  senders_of _ = 0

  -- what a receiver took
  abbrev pub taken_of : Role M → List (Letter M)
  taken_of (Receiving senders taken collected) = taken
  taken_of _ = []

  -- what the senders sent whose passes a receiver has taken in
  abbrev pub collected_of : Role M → List (List M)
  collected_of (Receiving senders taken collected) = collected
  collected_of _ = []

  -- a sender that has sent one letter more
  abbrev pub with_sent : Role M → Letter M → Role M
  with_sent (Sending number sent) x = Sending number (sent ++ x.message ∷ [])
  with_sent role x = role

  -- a receiver that has taken one letter more
  abbrev pub with_taken : Role M → Letter M → Role M
  with_taken (Receiving senders taken collected) x = Receiving senders (taken ++ x ∷ []) collected
  with_taken role x = role

  -- a receiver that has made one sender more, and that sender
  abbrev pub with_opened : Role M → Role M
  with_opened (Receiving senders taken collected) = Receiving (senders + 1) taken collected
  with_opened role = role

  abbrev pub opened : Role M → Role M
  opened (Receiving senders taken collected) = Sending senders []
  opened role = Spent

  -- a receiver that has taken in one sender's pass more
  abbrev pub with_collected : Role M → Role M → Role M
  with_collected (Receiving senders taken collected) sender = Receiving senders taken (collected ++ sent_of sender ∷ [])
  with_collected role sender = role

  -- what a sender knows is so
  pub record FitsSender (h : History M) (pass number : ℕ) (sent : List M) : Type 0 where
    pub seated : h.seat number ≡ Some pass
    pub known : sent ≡ h.sent number

  -- what the receiver knows is so
  pub record FitsReceiver (h : History M) (pass senders : ℕ) (taken : List (Letter M)) (collected : List (List M)) : Type 0 where
    pub reading : pass ≡ h.reader
    pub known : taken ≡ h.taken
    pub unmade : (number : ℕ) → senders ≤ number → (h.seat number ≡ None) × (h.sent number ≡ [])
    pub back : (number : ℕ) → number < length collected → (h.seat number ≡ None) × (sent_by number collected ≡ h.sent number)
    pub within : length collected ≤ senders

  -- what a pass knows is so
  abbrev pub Fits : History M → ℕ → Role M → Type 0
  Fits h pass (Sending number sent) = FitsSender h pass number sent
  Fits h pass (Receiving senders taken collected) = FitsReceiver h pass senders taken collected
  Fits h pass Spent = Unit {0}

  abbrev pub FitsAll : History M → List (Role M) → Type 0
  FitsAll h views = (pass : ℕ) (v : Role M) → get_elem? views pass ≡ some v → Fits h pass v

  -- each sender's messages are those taken of it, and then those that the queue holds of it
  abbrev pub Delivers : List (Letter M) → List (Role M) → Type 0
  Delivers items views =
      (h : History M)
      × ((number : ℕ) → messages_of number (h.taken ++ items) ≡ h.sent number)
      × FitsAll h views

  -- of each sender that is back: what it sent is what was taken of it, and then what is left of it
  abbrev pub IsLeft : Role M → List (Letter M) → Type 0
  IsLeft v left = (number : ℕ) → number < length (collected_of v) → messages_of number (taken_of v ++ left) ≡ sent_by number (collected_of v)

  -- once all senders' passes are back: what each sent is what was taken of it, and then what is left of it
  abbrev pub IsAccounted : Role M → List (Letter M) → Type 0
  IsAccounted v left = length (collected_of v) ≡ senders_of v
      → (number : ℕ) → messages_of number (taken_of v ++ left) ≡ sent_by number (collected_of v)

  -- the receiver has taken a letter of one of its senders
  pub record IsTaken (before : Role M) (x : Letter M) (after : Role M) : Type 0 where
    pub longer : after ≡ with_taken before x
    pub numbered : x.from < senders_of before
    pub left : (items : List (Letter M)) × IsAccounted after items

  -- all senders' passes are back, and what was taken is a part of what they sent
  pub record IsSettled (v : Role M) : Type 0 where
    pub whole : v ≡ Receiving (length (collected_of v)) (taken_of v) (collected_of v)
    pub left : (items : List (Letter M)) × IsAccounted v items
