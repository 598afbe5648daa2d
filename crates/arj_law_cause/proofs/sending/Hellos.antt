-- What a hello leads to: one question at most for each action that the node has something of.
use Rattle.arj_law_parts.proofs.Words
use Words.{◌≤◌, ◌+◌, ℕ, suc, Bool, true, false, cond, List, [], ◌∷◌, map, filter, length, arith, Uid, Effect, Disk, Parts, Void}
use Words.{holders, handle, is_earlier, is_meant, query_about, taken}
use Words.message
use Rattle.arj_law_runs.proofs.bindings.Handled.{outs_of}
use Rattle.arj_law_cause.proofs.sending.Weights as weights
use Rattle.arj_law_cause.proofs.spelled.Lists.{filter_shorter}

module _ (n j k : ℕ) where
  abbrev mass : List Effect → ℕ
  mass es = weights.mass n j k es

  pub queries_mass : (us : List Uid) → mass (map query_about us) ≤ length us
  queries_mass [] = omega arith
  queries_mass (u ∷ us) = add (weights.weigh n j k u.node (message.Query (record { act = u }))) (mass (map query_about us)) (length us)
      (weights.weighs n j k 1 u.node (message.Query (record { act = u })) (omega arith) (omega arith)) (queries_mass us)
    where
      add : (a b c : ℕ) → a ≤ 1 → b ≤ c → a + b ≤ suc c
      add a b c x y = omega (arith, x, y)

  pub hello_mass : (from i : ℕ) (d : Disk) (t : Parts) (node inc : ℕ) →
      mass (outs_of (taken i d t from (message.Hello (record { node = node; inc = inc })))) ≤ length (holders d t)
  hello_mass from i d t node inc = by (is_meant t (message.Hello (record { node = node; inc = inc })))
    where
      least : (a : ℕ) → 0 ≤ a
      least a = omega arith

      less : (a b c : ℕ) → a ≤ b → b ≤ c → a ≤ c
      less a b c x y = omega (arith, x, y)

      by : (b : Bool) → mass (outs_of (cond b (handle i d t from (message.Hello (record { node = node; inc = inc }))) (Void [])))
          ≤ length (holders d t)
      by true = less (mass (map query_about (filter (is_earlier node inc) (holders d t)))) (length (filter (is_earlier node inc)
          (holders d t)))
          (length (holders d t)) (queries_mass (filter (is_earlier node inc) (holders d t))) (filter_shorter (is_earlier node inc)
          (holders d t))
      by false = least (length (holders d t))
