-- What holds of each effect of a restart, piece by piece, holds of all of them.
use Rattle.arj_law_parts.proofs.Words
use Words.{ℕ, List, ◌∷◌, ◌++◌, map, Option, Some, None, AllByRecursion, Body, Header, Uid, back_lines, Disk, Do, Effect, Intent, Look}
use Words.{PutInc, Say, Named, Naming, prepared_actions, query_about, uid_set, without_number, hello_to, naming_at, naming_back, numbers_to}
use Words.{recovered_records, restart_outs, tolds_again}
use Words.body
use Rattle.arj_law_serial.proofs.Terms.{all_append, all_flat, all_map}

module _ (P : Effect → Type 0) where
  abbrev All : List Effect → Type 0
  All es = AllByRecursion P es

  both : (es fs : List Effect) → All es → All fs → All (es ++ fs)
  both es fs a b = all_append P es fs a b

  -- locks are given back, records found, ends told again, actions asked about, and other nodes greeted
  pub restart_each : (hd : Header) (k inc : ℕ) (d : Disk) → P (Do Look) → P (Do (PutInc inc)) → P (Say (body.Up k inc)) → AllByRecursion P
      (naming_back (naming_at k inc d.names)) → AllByRecursion P (recovered_records k d.intents) → AllByRecursion P (tolds_again d.intents)
      → ((u : Uid) → P (query_about u)) → ((n : ℕ) → P (hello_to k inc n)) → AllByRecursion P (restart_outs hd k inc d)
  restart_each hd k inc d looks puts up back found tells queries hellos = both four greeting
      (both three asking (both two (tolds_again d.intents) (both one records (looks, (puts, (up, (looks, back)))) (looks, found)) tells)
      (all_map P query_about (uid_set (prepared_actions d.store ++ prepared_actions d.names)) queries))
      (all_map P (hello_to k inc) (without_number k (numbers_to hd.nodes)) hellos)
    where
      one : List Effect
      one = Do Look ∷ Do (PutInc inc) ∷ Say (body.Up k inc) ∷ Do Look ∷ naming_back (naming_at k inc d.names)

      records : List Effect
      records = Do Look ∷ recovered_records k d.intents

      two : List Effect
      two = one ++ records

      three : List Effect
      three = two ++ tolds_again d.intents

      asking : List Effect
      asking = map query_about (uid_set (prepared_actions d.store ++ prepared_actions d.names))

      four : List Effect
      four = three ++ asking

      greeting : List Effect
      greeting = map (hello_to k inc) (without_number k (numbers_to hd.nodes))

  module _ (says : (b : Body) → P (Say b)) where
    pub back_said : (o : Option Naming) → AllByRecursion P (naming_back o)
    back_said None = tt
    back_said (Some o) = all_flat P (λ (e : ℕ × Named). back_lines e.1) o.objects (λ e. all_map P _ e.1.rows (λ r. says _))

    -- where that holds of each line
    pub restart_said : (hd : Header) (k inc : ℕ) (d : Disk) → P (Do Look) → P (Do (PutInc inc)) → AllByRecursion P (tolds_again d.intents) →
        ((u : Uid) → P (query_about u)) → ((n : ℕ) → P (hello_to k inc n)) → AllByRecursion P (restart_outs hd k inc d)
    restart_said hd k inc d looks puts tells queries hellos =
        restart_each hd k inc d looks puts (says (body.Up k inc)) (back_said (naming_at k inc d.names))
        (all_map P (λ (e : Uid × Intent). Say (body.Recovered k e.0)) d.intents (λ e. says (body.Recovered k e.0))) tells queries hellos
