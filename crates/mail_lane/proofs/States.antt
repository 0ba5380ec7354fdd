-- What a receiver and a settled lane are after a step.
use Rattle.std.proofs.Common.{◌≡◌, ◌<◌, ℕ, List, [], ◌∷◌, ◌++◌, length, sym, refl, ap, subst, ◌∙◌, append_assoc, length-append, arith}
use Rattle.mail_lane.specs.declared.letter.Letter.{Letter}
use Rattle.mail_lane.specs.declared.role.Role.{Role}
use Rattle.mail_lane.specs.declared.role.Role.TheVariants.{Receiving}
use Rattle.mail_lane.specs.Lane.{LaneId, ReceiverState, SettledState, messages_of, sent_by, BeginsWith, TakenInOrder, TakenWhole}
use Rattle.mail_lane.specs.Rule.{IsAccounted, IsTaken, IsSettled, senders_of, taken_of, collected_of, with_taken}
use Rattle.mail_lane.proofs.Letters.{messages_of-append, messages_of-among}

module _ {M : Type 0} where
  after_taking : (senders : ℕ) (taken : List (Letter M)) (collected : List (List M)) (v w : Role M) (x : Letter M)
      → v ≡ Receiving senders taken collected → IsTaken v x w → w ≡ Receiving senders (taken ++ x ∷ []) collected
  after_taking senders taken collected v w x is step = step.longer ∙ ap (λ u. with_taken u x) is

  -- a receiver that took one letter more
  pub receiver_after : (lane : LaneId) (before : ReceiverState M) (v w : Role M) (x : Letter M)
      → v ≡ Receiving before.senders before.taken before.back → IsTaken v x w → lane ≡ before.lane
      → let after : ReceiverState M = record { lane = lane; senders = senders_of w; taken = taken_of w; back = collected_of w } in
      let wanted : ReceiverState M = record { lane = before.lane; senders = before.senders; taken = before.taken ++ x ∷ []; back = before.back } in
      after ≡ wanted
  receiver_after lane before v w x is step same =
      let after = after_taking before.senders before.taken before.back v w x is step in
      λ i. record { lane = same i; senders = senders_of (after i); taken = taken_of (after i); back = collected_of (after i) }

  -- the letter is of one of the receiver's senders
  pub receiver_numbered : (senders : ℕ) (taken : List (Letter M)) (collected : List (List M)) (v w : Role M) (x : Letter M)
      → v ≡ Receiving senders taken collected → IsTaken v x w → x.from < senders
  receiver_numbered senders taken collected v w x is step = subst (λ (u : Role M). x.from < senders_of u) is step.numbered

  -- what is left, once one letter more was taken
  accounted_after : (state : SettledState M) (v w : Role M) (x : Letter M) → v ≡ Receiving (length state.sent) state.taken state.sent → (step : IsTaken v x w)
      → (p : ℕ) → messages_of p ((state.taken ++ x ∷ []) ++ step.left.0) ≡ sent_by p state.sent
  accounted_after state v w x is step p =
      let after = after_taking (length state.sent) state.taken state.sent v w x is step in
      let accounted : IsAccounted (Receiving (length state.sent) (state.taken ++ x ∷ []) state.sent) step.left.0 = subst (λ (u : Role M). IsAccounted u step.left.0) after step.left.1 in
      accounted refl p

  -- where a letter was left, not the whole was taken
  pub not_whole : (state : SettledState M) (v w : Role M) (x : Letter M) → v ≡ Receiving (length state.sent) state.taken state.sent → IsTaken v x w → ¬ TakenWhole state
  not_whole state v w x is step whole =
      let p = x.from in
      let more = step.left.0 in
      let same : messages_of p state.taken ++ x.message ∷ messages_of p more ≡ messages_of p state.taken =
      sym (messages_of-among state.taken more x) ∙ ap (messages_of p) (sym (append_assoc state.taken (x ∷ []) more)) ∙ accounted_after state v w x is step p ∙ sym (whole p) in
      let longer = ap length same in
      absurd (omega (arith, length-append (messages_of p state.taken) (x.message ∷ messages_of p more)))

  begins_with : (taken left : List (Letter M)) (sent : List M) (p : ℕ) → messages_of p (taken ++ left) ≡ sent → BeginsWith sent (messages_of p taken)
  begins_with taken left sent p e = (messages_of p left, sym e ∙ messages_of-append p taken left)

  -- a prefix of what each sender sent was taken
  pub taken_in_order : (state : SettledState M) (v w : Role M) (x : Letter M) → v ≡ Receiving (length state.sent) state.taken state.sent → IsTaken v x w
      → let after : SettledState M = record { taken = taken_of w; sent = collected_of w } in TakenInOrder after
  taken_in_order state v w x is step =
      let known = after_taking (length state.sent) state.taken state.sent v w x is step in
      let state_of : Role M → SettledState M = λ u. record { taken = taken_of u; sent = collected_of u } in
      subst (λ (u : Role M). TakenInOrder (state_of u)) (sym known) (λ p. begins_with (state.taken ++ x ∷ []) step.left.0 (sent_by p state.sent) p (accounted_after state v w x is step p))

  -- what was taken is longer by the letter
  pub settled_after : (state : SettledState M) (v w : Role M) (x : Letter M) → v ≡ Receiving (length state.sent) state.taken state.sent → IsTaken v x w
      → let after : SettledState M = record { taken = taken_of w; sent = collected_of w } in
      let wanted : SettledState M = record { taken = state.taken ++ x ∷ []; sent = state.sent } in
      after ≡ wanted
  settled_after state v w x is step =
      let after = after_taking (length state.sent) state.taken state.sent v w x is step in
      λ i. record { taken = taken_of (after i); sent = collected_of (after i) }

  -- the same, of what a settled lane knows
  pub settled_in_order : (v : Role M) → IsSettled v → let state : SettledState M = record { taken = taken_of v; sent = collected_of v } in TakenInOrder state
  settled_in_order v settled p =
      let is_whole : length (collected_of v) ≡ senders_of v = sym (ap senders_of settled.whole) in
      begins_with (taken_of v) settled.left.0 (sent_by p (collected_of v)) p (settled.left.1 is_whole p)

  -- once all senders are back and what is left is known, the lane is settled
  pub settles : (senders : ℕ) (taken : List (Letter M)) (collected : List (List M)) (v : Role M) → v ≡ Receiving senders taken collected → length collected ≡ senders
      → (left : List (Letter M)) → IsAccounted v left → IsSettled v
  settles senders taken collected v is all left accounted = record {
    whole = subst (λ (u : Role M). u ≡ Receiving (length (collected_of u)) (taken_of u) (collected_of u)) (sym is) (ap (λ n. Receiving n taken collected) (sym all));
    left = (left, accounted);
  }
