-- A list of calls in words, four for each call, a kind and its numbers: which words are in this form, and
-- what calls they are. Definitions alone. Assumes nothing.
use Rattle.std.specs.Prelude.{Bool, true, false, cond, ◌&&◌, List, [], ◌∷◌, ℕ, ◌-◌, leb, ltb, eqb, ℤ, take, drop}
use Rattle.rule.specs.Voice.{tuning}
use Rattle.rule.specs.Calls.{Call, block, loss, pluck, announce, ask, instant, commit, withdraw}

-- Kind 0 is a block that takes a samples from the input and lends an output of b; 1 a loss a; 2 a pluck of
-- amplitude a, count b and seed c; 3 an announced change, 4 an instant one and 5 an ask, to order a, length b
-- and delay c; 6 a commit and 7 a withdrawal. Words that a kind does not use are not looked at.
abbrev pub called : ℕ → ℕ → ℕ → ℕ → List ℤ → Call
called kind a b c xs =
    cond (eqb kind 0) (block (take a xs) b)
    (cond (eqb kind 1) (loss a)
    (cond (eqb kind 2) (pluck a b c)
    (cond (eqb kind 3) (announce (tuning a b c))
    (cond (eqb kind 4) (instant (tuning a b c))
    (cond (eqb kind 5) (ask (tuning a b c)) (cond (eqb kind 6) commit withdraw))))))

abbrev pub last_kind : ℕ
last_kind = 7

-- how many samples a call takes from the input, and how long an output it lends
abbrev pub takes : ℕ → ℕ → ℕ
takes kind a = cond (eqb kind 0) a 0

abbrev pub lends : ℕ → ℕ → ℕ
lends kind b = cond (eqb kind 0) b 0

-- the calls, where xs is what is left of the input
unfoldable pub calls : List ℕ → List ℤ → List Call
calls [] xs = []
calls (k ∷ []) xs = []
calls (k ∷ a ∷ []) xs = []
calls (k ∷ a ∷ b ∷ []) xs = []
calls (k ∷ a ∷ b ∷ c ∷ ws) xs = called k a b c xs ∷ calls ws (drop (takes k a) xs)

-- a kind that there is, with enough input, output and places for numbers left
abbrev pub fits : ℕ → ℕ → ℕ → ℕ → ℕ → ℕ → Bool
fits kind taken lent inputs outputs numbers =
    leb kind last_kind && (leb taken inputs && (leb lent outputs && ltb 0 numbers))

-- in this form: whole calls, each of which fits what is left
unfoldable pub formed : List ℕ → ℕ → ℕ → ℕ → Bool
formed [] inputs outputs numbers = true
formed (k ∷ []) inputs outputs numbers = false
formed (k ∷ a ∷ []) inputs outputs numbers = false
formed (k ∷ a ∷ b ∷ []) inputs outputs numbers = false
formed (k ∷ a ∷ b ∷ c ∷ ws) inputs outputs numbers =
    fits k (takes k a) (lends k b) inputs outputs numbers
    && formed ws (inputs - takes k a) (outputs - lends k b) (numbers - 1)
