-- Each step of the lane keeps its rule.
use Rattle.std.proofs.Common.{◌≡◌, ◌≢◌, ◌+◌, ◌<◌, ◌≤◌, ◌⊎◌, ℕ, zero, suc, List, [], ◌∷◌, ◌++◌, length, set, sym, refl, ap, subst, inl, inr, ⊎_elim, ◌∙◌, Some, None, append_assoc, length-append, lt_of_not-le, arith}
use Rattle.std.specs.Prelude.{Option}
use mathlib.Core.Option.{some, some-injective, some-ne-none}
use lib.ListN.{get_elem?}
use native.Mathlib.Decide.{dec_le}
use Rattle.crossbeam_queue.specs.Fifo.{Pushes, Pops, Forks, Merges, Learns}
use Rattle.crossbeam_queue.proofs.Lists.{at_set}
use Rattle.mail_lane.specs.declared.letter.Letter.{Letter}
use Rattle.mail_lane.specs.declared.role.Role.{Role}
use Rattle.mail_lane.specs.declared.role.Role.TheVariants.{Sending, Receiving, Spent}
use Rattle.mail_lane.specs.Lane.{messages_of, sent_by}
use Rattle.mail_lane.specs.Rule.{History, FitsSender, FitsReceiver, Fits, FitsAll, Delivers, IsLeft, IsAccounted, IsTaken, unopened, with_collected, spent_role}
use Rattle.mail_lane.proofs.Letters.{changed, changed-same, changed-other, changed-kept, messages_of-pushed, messages_of-among, never_empty, sent_by-front, sent_by-last, sent_by-past}

module _ {M : Type 0} where
  -- a list of views in which one is another's
  all_set : (h : History M) (views : List (Role M)) (pass : ℕ) (w : Role M) → Fits h pass w
      → ((j : ℕ) (u : Role M) → j ≢ pass → get_elem? views j ≡ some u → Fits h j u) → FitsAll h (set views pass w)
  all_set h views pass w mine others j u e =
      ⊎_elim
      (λ (x : (j ≡ pass) × (w ≡ u)). subst (λ (y : ℕ × Role M). Fits h y.0 y.1) (λ i. (sym x.0 i, x.1 i)) mine)
      (λ (x : (j ≢ pass) × (get_elem? views j ≡ some u)). others j u x.0 x.1)
      (at_set views pass j w u e)

  at_end : (l : List (Role M)) (a b : Role M) (j : ℕ) → get_elem? (l ++ a ∷ []) j ≡ some b → (get_elem? l j ≡ some b) ⊎ ((j ≡ length l) × (a ≡ b))
  at_end [] a b zero e = inr (refl, some-injective a b e)
  at_end [] a b (suc j) e = absurd (some-ne-none b (sym e))
  at_end (x ∷ xs) a b zero e = inl e
  at_end (x ∷ xs) a b (suc j) e = ⊎_elim (λ t. inl t) (λ t. inr (ap suc t.0, t.1)) (at_end xs a b j e)

  -- before anything happened
  started : History M
  started = record { reader = 0; seat = λ _. None; sent = λ _. []; taken = [] }

  starts : FitsAll started (unopened ∷ [])
  unfolding started
  starts zero u e =
      subst (Fits started 0) (some-injective unopened u e) record {
        reading = refl;
        known = refl;
        unmade = λ number _. (refl, refl);
        back = λ number below. absurd (omega arith);
        within = omega arith;
      }
  starts (suc j) u e = absurd (some-ne-none u (sym e))

  pub begins : Delivers {M = M} [] (unopened ∷ [])
  unfolding started
  begins = (started, (λ number. refl), starts)

  after_sending : History M → ℕ → List M → History M
  after_sending h number sent = record { reader = h.reader; seat = h.seat; sent = changed h.sent number sent; taken = h.taken }

  sending_fits : (h : History M) (pass number : ℕ) (sent : List M) → h.seat number ≡ Some pass
      → (j : ℕ) (u : Role M) → j ≢ pass → Fits h j u → Fits (after_sending h number sent) j u
  unfolding after_sending
  sending_fits h pass number sent seated j (Sending k theirs) other fits = record {
    seated = fits.seated;
    known = fits.known ∙ sym (changed-other h.sent number sent k (λ e. other (cc (ap h.seat e, fits.seated, seated))));
  }
  sending_fits h pass number sent seated j (Receiving senders taken collected) other fits = record {
    reading = fits.reading;
    known = fits.known;
    unmade = λ k above. ((fits.unmade k above).0, changed-other h.sent number sent k (λ e. cc (ap h.seat e, (fits.unmade k above).0, seated)) ∙ (fits.unmade k above).1);
    back = λ k below. ((fits.back k below).0, (fits.back k below).1 ∙ sym (changed-other h.sent number sent k (λ e. cc (ap h.seat e, (fits.back k below).0, seated))));
    within = fits.within;
  }
  sending_fits h pass number sent seated j Spent other fits = tt

  -- a sender's letter joins the queue
  pub sends : (n pass : ℕ) (sent : List M) (x : Letter M) → Pushes Delivers n pass (Sending x.from sent) x (λ w. w ≡ Sending x.from (sent ++ x.message ∷ []))
  unfolding after_sending
  sends n pass sent x items views _ delivers at =
      let h = delivers.0 in
      let mine : FitsSender h pass x.from sent = delivers.2 pass (Sending x.from sent) at in
      let longer = sent ++ x.message ∷ [] in
      let known : h.sent x.from ++ x.message ∷ [] ≡ longer = ap (λ l. l ++ x.message ∷ []) (sym mine.known) in (
        Sending x.from longer,
        (
          after_sending h x.from longer,
          (λ p. messages_of-pushed h.sent h.taken items x delivers.1 p ∙ ap (λ l. changed h.sent x.from l p) known),
          all_set (after_sending h x.from longer) views pass (Sending x.from longer)
              record { seated = mine.seated; known = sym (changed-same h.sent x.from longer x.from refl) }
              (λ j u other e. sending_fits h pass x.from longer mine.seated j u other (delivers.2 j u e)),
        ),
        refl,
      )

  accounts_at : (h : History M) (pass senders : ℕ) (taken : List (Letter M)) (collected : List (List M)) → FitsReceiver h pass senders taken collected
      → length collected ≡ senders → (p : ℕ) → Dec (length collected ≤ p) → h.sent p ≡ sent_by p collected
  accounts_at h pass senders taken collected fits all p (yes past) = (fits.unmade p (omega arith)).1 ∙ sym (sent_by-past collected p past)
  accounts_at h pass senders taken collected fits all p (no within) = sym (fits.back p (lt_of_not-le within)).1

  accounts : (h : History M) (pass senders : ℕ) (taken : List (Letter M)) (collected : List (List M)) → FitsReceiver h pass senders taken collected
      → (items : List (Letter M)) → ((p : ℕ) → messages_of p (taken ++ items) ≡ h.sent p) → IsAccounted (Receiving senders taken collected) items
  accounts h pass senders taken collected fits items delivered all p = delivered p ∙ accounts_at h pass senders taken collected fits all p (dec_le (length collected) p)

  after_taking : History M → List (Letter M) → History M
  after_taking h taken = record { reader = h.reader; seat = h.seat; sent = h.sent; taken = taken }

  taking_fits : (h : History M) (pass : ℕ) (taken : List (Letter M)) → pass ≡ h.reader
      → (j : ℕ) (u : Role M) → j ≢ pass → Fits h j u → Fits (after_taking h taken) j u
  unfolding after_taking
  taking_fits h pass taken reading j (Sending k theirs) other fits = record { seated = fits.seated; known = fits.known }
  taking_fits h pass taken reading j (Receiving senders theirs collected) other fits = absurd (other (fits.reading ∙ sym reading))
  taking_fits h pass taken reading j Spent other fits = tt

  made_by : (h : History M) (pass senders : ℕ) (taken : List (Letter M)) (collected : List (List M)) → FitsReceiver h pass senders taken collected
      → (x : Letter M) (before items : List (Letter M)) → messages_of x.from (before ++ x ∷ items) ≡ h.sent x.from → Dec (senders ≤ x.from) → x.from < senders
  made_by h pass senders taken collected fits x before items delivered (yes past) =
      absurd (never_empty (messages_of x.from before) (messages_of x.from items) x.message (sym (messages_of-among before items x) ∙ delivered ∙ (fits.unmade x.from past).1))
  made_by h pass senders taken collected fits x before items delivered (no within) = lt_of_not-le within

  -- the receiver takes the oldest letter
  pub takes : (pass senders : ℕ) (taken : List (Letter M)) (collected : List (List M)) → Pops Delivers pass (Receiving senders taken collected) (IsTaken (Receiving senders taken collected))
  unfolding after_taking
  takes pass senders taken collected x items views delivers at =
      let h = delivers.0 in
      let mine : FitsReceiver h pass senders taken collected = delivers.2 pass (Receiving senders taken collected) at in
      let longer = taken ++ x ∷ [] in
      let after = after_taking h longer in
      let fits : FitsReceiver after pass senders longer collected = record { reading = mine.reading; known = refl; unmade = mine.unmade; back = mine.back; within = mine.within } in
      let delivered : (p : ℕ) → messages_of p (longer ++ items) ≡ h.sent p = λ p.
      ap (messages_of p) (append_assoc taken (x ∷ []) items ∙ ap (λ l. l ++ x ∷ items) mine.known) ∙ delivers.1 p in (
        Receiving senders longer collected,
        (
          after,
          delivered,
          all_set after views pass (Receiving senders longer collected) fits (λ j u other e. taking_fits h pass longer mine.reading j u other (delivers.2 j u e)),
        ),
        record {
          longer = refl;
          numbered = made_by h pass senders taken collected mine x h.taken items (delivers.1 x.from) (dec_le senders x.from);
          left = (items, accounts after pass senders longer collected fits items delivered);
        },
      )

  reseated : History M → ℕ → Option ℕ → History M
  reseated h number seat = record { reader = h.reader; seat = changed h.seat number seat; sent = h.sent; taken = h.taken }

  opening_fits : (h : History M) (pass number seat : ℕ) → h.seat number ≡ None → pass ≡ h.reader
      → (j : ℕ) (u : Role M) → j ≢ pass → Fits h j u → Fits (reseated h number (Some seat)) j u
  unfolding reseated
  opening_fits h pass number seat free reading j (Sending k theirs) other fits = record {
    seated = changed-other h.seat number (Some seat) k (λ e. cc (ap h.seat e, fits.seated, free)) ∙ fits.seated;
    known = fits.known;
  }
  opening_fits h pass number seat free reading j (Receiving senders theirs collected) other fits = absurd (other (fits.reading ∙ sym reading))
  opening_fits h pass number seat free reading j Spent other fits = tt

  opened_fits : (h : History M) (views : List (Role M)) (number : ℕ) (seat : ℕ) → length views ≡ seat → h.sent number ≡ [] → FitsAll (reseated h number (Some seat)) views
      → FitsAll (reseated h number (Some seat)) (views ++ Sending number [] ∷ [])
  unfolding reseated
  opened_fits h views number seat last none fits j u e =
      ⊎_elim
      (λ (x : get_elem? views j ≡ some u). fits j u x)
      (λ (x : (j ≡ length views) × (Sending number [] ≡ u)). subst (Fits (reseated h number (Some seat)) j) x.1 record {
        seated = changed-same h.seat number (Some seat) number refl ∙ ap Some (sym last ∙ sym x.0);
        known = sym none;
      })
      (at_end views (Sending number []) u j e)

  -- the receiver makes the sender of the next number
  pub opens : (pass senders : ℕ) (taken : List (Letter M)) (collected : List (List M))
      → Forks Delivers pass (Receiving senders taken collected) (Receiving (senders + 1) taken collected) (Sending senders [])
  unfolding reseated
  opens pass senders taken collected items views delivers at =
      let h = delivers.0 in
      let mine : FitsReceiver h pass senders taken collected = delivers.2 pass (Receiving senders taken collected) at in
      let free = mine.unmade senders (omega arith) in
      let vs = set views pass (Receiving (senders + 1) taken collected) in
      let seat = length vs in
      let after = reseated h senders (Some seat) in
      let fits : FitsReceiver after pass (senders + 1) taken collected = record {
        reading = mine.reading;
        known = mine.known;
        unmade = λ k above. (changed-other h.seat senders (Some seat) k (λ e. omega arith) ∙ (mine.unmade k (omega arith)).0, (mine.unmade k (omega arith)).1);
        back = λ k below. let w = mine.within in (changed-other h.seat senders (Some seat) k (λ e. omega arith) ∙ (mine.back k below).0, (mine.back k below).1);
        within = let w = mine.within in omega arith;
      } in (
        after,
        delivers.1,
        opened_fits h vs senders seat refl free.1
            (all_set after views pass (Receiving (senders + 1) taken collected) fits (λ j u other e. opening_fits h pass senders seat free.0 mine.reading j u other (delivers.2 j u e))),
      )

  collecting_fits : (h : History M) (pass other number : ℕ) → h.seat number ≡ Some other → pass ≡ h.reader
      → (j : ℕ) (u : Role M) → j ≢ pass → j ≢ other → Fits h j u → Fits (reseated h number None) j u
  unfolding reseated
  collecting_fits h pass other number seated reading j (Sending k theirs) first second fits = record {
    seated = changed-other h.seat number None k (λ e. second (cc (ap h.seat e, fits.seated, seated))) ∙ fits.seated;
    known = fits.known;
  }
  collecting_fits h pass other number seated reading j (Receiving senders theirs collected) first second fits = absurd (first (fits.reading ∙ sym reading))
  collecting_fits h pass other number seated reading j Spent first second fits = tt

  was_made : (h : History M) (pass senders : ℕ) (taken : List (Letter M)) (collected : List (List M)) (other : ℕ) → FitsReceiver h pass senders taken collected
      → h.seat (length collected) ≡ Some other → Dec (senders ≤ length collected) → length collected < senders
  was_made h pass senders taken collected other fits seated (yes past) = cc (seated, (fits.unmade (length collected) past).0)
  was_made h pass senders taken collected other fits seated (no within) = lt_of_not-le within

  back_at : (h : History M) (pass senders : ℕ) (taken : List (Letter M)) (collected : List (List M)) (put : List M) → FitsReceiver h pass senders taken collected
      → put ≡ h.sent (length collected) → (k : ℕ) → k < length (collected ++ put ∷ []) → Dec (length collected ≤ k)
      → (changed h.seat (length collected) None k ≡ None) × (sent_by k (collected ++ put ∷ []) ≡ h.sent k)
  back_at h pass senders taken collected put fits known k below (yes past) =
      let is : k ≡ length collected = omega (arith, length-append collected (put ∷ [])) in (
        changed-same h.seat (length collected) None k is,
        ap (λ q. sent_by q (collected ++ put ∷ [])) is ∙ sent_by-last collected put ∙ known ∙ ap h.sent (sym is),
      )
  back_at h pass senders taken collected put fits known k below (no within) =
      let front : k < length collected = lt_of_not-le within in (
        changed-kept h.seat (length collected) None k (fits.back k front).0,
        sent_by-front collected put k front ∙ (fits.back k front).1,
      )

  -- the receiver takes in the pass of the next sender
  pub collects : (pass senders : ℕ) (taken : List (Letter M)) (collected : List (List M)) (other : ℕ) (put : List M)
      → Merges Delivers pass (Receiving senders taken collected) other (Sending (length collected) put) (Receiving senders taken (collected ++ put ∷ [])) Spent
  unfolding reseated
  collects pass senders taken collected other put items views delivers at apart at_other =
      let h = delivers.0 in
      let both : Role M = Receiving senders taken (collected ++ put ∷ []) in
      let mine : FitsReceiver h pass senders taken collected = delivers.2 pass (Receiving senders taken collected) at in
      let was : get_elem? views other ≡ some (Sending (length collected) put) =
      ⊎_elim (λ (x : (other ≡ pass) × (both ≡ Sending (length collected) put)). absurd (apart x.0))
      (λ (x : (other ≢ pass) × (get_elem? views other ≡ some (Sending (length collected) put))). x.1)
      (at_set views pass other both (Sending (length collected) put) at_other) in
      let theirs : FitsSender h other (length collected) put = delivers.2 other (Sending (length collected) put) was in
      let after = reseated h (length collected) None in
      let made = was_made h pass senders taken collected other mine theirs.seated (dec_le senders (length collected)) in
      let fits : FitsReceiver after pass senders taken (collected ++ put ∷ []) = record {
        reading = mine.reading;
        known = mine.known;
        unmade = λ k above. (changed-kept h.seat (length collected) None k (mine.unmade k above).0, (mine.unmade k above).1);
        back = λ k below. back_at h pass senders taken collected put mine theirs.known k below (dec_le (length collected) k);
        within = omega (arith, length-append collected (put ∷ []));
      } in (
        after,
        delivers.1,
        all_set after (set views pass both) other Spent tt
            (λ j u second e.
            ⊎_elim
            (λ (x : (j ≡ pass) × (both ≡ u)). subst (λ (y : ℕ × Role M). Fits after y.0 y.1) (λ i. (sym x.0 i, x.1 i)) fits)
            (λ (x : (j ≢ pass) × (get_elem? views j ≡ some u)). collecting_fits h pass other (length collected) theirs.seated mine.reading j u x.0 second (delivers.2 j u x.1))
            (at_set views pass j both u e)),
      )

  -- the receiver knows what is left of the senders that are back
  pub learns_back : (pass senders : ℕ) (taken : List (Letter M)) (collected : List (List M)) → Learns Delivers pass (Receiving senders taken collected) (IsLeft (Receiving senders taken collected))
  learns_back pass senders taken collected items views delivers at p below =
      let h = delivers.0 in
      let mine : FitsReceiver h pass senders taken collected = delivers.2 pass (Receiving senders taken collected) at in
      ap (λ l. messages_of p (l ++ items)) mine.known ∙ delivers.1 p ∙ sym (mine.back p below).1

  -- once all senders are back, the receiver knows what is left
  pub learns_left : (pass senders : ℕ) (taken : List (Letter M)) (collected : List (List M)) → Learns Delivers pass (Receiving senders taken collected) (IsAccounted (Receiving senders taken collected))
  learns_left pass senders taken collected items views delivers at =
      let h = delivers.0 in
      let mine : FitsReceiver h pass senders taken collected = delivers.2 pass (Receiving senders taken collected) at in
      accounts h pass senders taken collected mine items (λ p. ap (λ l. messages_of p (l ++ items)) mine.known ∙ delivers.1 p)

  -- the same, where what both passes know is told by equations
  pub collects_as : (pass senders : ℕ) (taken : List (Letter M)) (collected : List (List M)) (other : ℕ) (put : List M) (v w : Role M)
      → v ≡ Receiving senders taken collected → w ≡ Sending (length collected) put → Merges Delivers pass v other w (with_collected v w) spent_role
  collects_as pass senders taken collected other put v w is_receiving is_sending =
      subst (λ (u : Role M). Merges Delivers pass u other w (with_collected u w) Spent) (sym is_receiving)
      (subst (λ (u : Role M). Merges Delivers pass (Receiving senders taken collected) other u (with_collected (Receiving senders taken collected) u) Spent) (sym is_sending) (collects pass senders taken collected other put))
