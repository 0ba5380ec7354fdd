-- What a lane, its senders, its receiver and a settled lane are in contracts.
use Rattle.std.specs.Prelude.{◌≡◌, ◌==◌, ◌<◌, ◌+◌, ℕ, List, [], ◌∷◌, ◌++◌, length, map, filter, slice_get, slice_index_or, Some}
use Rattle.std.specs.declared.alloc.Global.{Global}
use Rattle.crossbeam_queue.specs.SegTies.{SegId}
use Rattle.mail_lane.specs.declared.letter.Letter.{Letter}

-- which lane it is
abbrev pub LaneId : Type 0
LaneId = SegId Global

-- a lane: which it is, and how many senders it has
pub record Lane : Type 0 where
  pub id : LaneId
  pub senders : ℕ

-- a sender: its lane, its number, and what it sent with Ok, oldest first
pub record SenderState (M : Type 0) : Type 0 where
  pub lane : LaneId
  pub number : ℕ
  pub sent : List M

-- a receiver: its lane, how many senders that has, what it took, oldest first, each message with its sender's number, and what the senders sent that it took back, the sender of number 0 first
pub record ReceiverState (M : Type 0) : Type 0 where
  pub lane : LaneId
  pub senders : ℕ
  pub taken : List (Letter M)
  pub back : List (List M)

-- a settled lane: what its receiver took in all, and what each sender sent
pub record SettledState (M : Type 0) : Type 0 where
  pub taken : List (Letter M)
  pub sent : List (List M)

module _ {M : Type 0} where
  abbrev pub letter : ℕ → M → Letter M
  letter from message = record { from = from; message = message }

  -- the messages of one sender among the letters, oldest first
  abbrev pub messages_of : ℕ → List (Letter M) → List M
  messages_of number letters = map (λ x. x.message) (filter (λ x. x.from == number) letters)

  -- what the sender of this number sent; where there is no such sender, nothing
  abbrev pub sent_by : ℕ → List (List M) → List M
  sent_by number sent = slice_index_or sent number []

  -- the list begins with this one
  abbrev pub BeginsWith : List M → List M → Type 0
  BeginsWith whole front = (rest : List M) × (whole ≡ front ++ rest)

  -- a sender that has sent one message more
  abbrev pub with_message : SenderState M → M → SenderState M
  with_message sender message = record { lane = sender.lane; number = sender.number; sent = sender.sent ++ message ∷ [] }

  -- a receiver has taken one message more, of one of its lane's senders
  abbrev pub ReceivesOne : ReceiverState M → M → ReceiverState M → Type 0
  ReceivesOne old message new = (from : ℕ) × (from < old.senders)
      × (new ≡ record { lane = old.lane; senders = old.senders; taken = old.taken ++ letter from message ∷ []; back = old.back })

  -- a receiver has taken one sender back, with what that sent
  abbrev pub with_back : ReceiverState M → List M → ReceiverState M
  with_back receiver sent = record { lane = receiver.lane; senders = receiver.senders; taken = receiver.taken; back = receiver.back ++ sent ∷ [] }

  -- all was taken that the senders sent that are back
  abbrev pub HasWhole : ReceiverState M → Type 0
  HasWhole receiver = (number : ℕ) → number < length receiver.back → messages_of number receiver.taken ≡ sent_by number receiver.back

  -- a settled lane has given one message more, of one of its senders
  abbrev pub GivesOne : SettledState M → M → SettledState M → Type 0
  GivesOne old message new = (from : ℕ) × (from < length old.sent)
      × (new ≡ record { taken = old.taken ++ letter from message ∷ []; sent = old.sent })

  -- the sender is this lane's
  abbrev pub IsSenderOf : Lane → SenderState M → Type 0
  IsSenderOf lane sender = sender.lane ≡ lane.id

  -- these are senders of this lane, and the number of each is its place
  abbrev pub AreNumbered : LaneId → List (SenderState M) → Type 0
  AreNumbered lane senders = (k : ℕ) (sender : SenderState M) → slice_get senders k ≡ Some sender → (sender.lane ≡ lane) × (sender.number ≡ k)

  -- these are senders of this lane, and their numbers are those from this one on
  abbrev pub AreNumberedFrom : ℕ → LaneId → List (SenderState M) → Type 0
  AreNumberedFrom first lane senders = (k : ℕ) (sender : SenderState M) → slice_get senders k ≡ Some sender → (sender.lane ≡ lane) × (sender.number ≡ first + k)

  -- these are the lane's senders that its receiver hasn't taken back, in the order of their numbers
  abbrev pub AreRestOf : Lane → ReceiverState M → List (SenderState M) → Type 0
  AreRestOf lane receiver senders = (length receiver.back + length senders ≡ lane.senders) × AreNumberedFrom (length receiver.back) lane.id senders

  -- these are the lane's senders 0, 1 and so on up to the last, in this order
  abbrev pub AreSendersOf : Lane → List (SenderState M) → Type 0
  AreSendersOf lane senders = (length senders ≡ lane.senders) × AreNumbered lane.id senders

  -- the receiver is this lane's
  abbrev pub IsReceiverOf : Lane → ReceiverState M → Type 0
  IsReceiverOf lane receiver = (receiver.lane ≡ lane.id) × (receiver.senders ≡ lane.senders)

  -- the messages taken of each sender are a prefix of what it sent
  abbrev pub TakenInOrder : SettledState M → Type 0
  TakenInOrder lane = (number : ℕ) → BeginsWith (sent_by number lane.sent) (messages_of number lane.taken)

  -- the messages taken of each sender are the whole of what it sent
  abbrev pub TakenWhole : SettledState M → Type 0
  TakenWhole lane = (number : ℕ) → messages_of number lane.taken ≡ sent_by number lane.sent
