-- How numbers come out of the words once each leader has its own: each word becomes the one that it leads to, and then
-- the leaders' mark is taken off. Inner definitions: no outside call's statement cites them.
use Rattle.std.specs.Prelude.{cond, List, ◌≡◌, ℕ, zero, suc, ◌-◌, ◌^◌, ◌≤◌, ◌<◌, ltb, length}
use Rattle.quad.specs.Numbers.{top_level}
use Rattle.ponds.specs.Words.{word_of}
use Rattle.ponds_sets.specs.Sets.{leading}

-- where the words lead: to a word that is a leader's, nearer with each step
pub record Ends (W : List ℕ) (end far : ℕ → ℕ) : Type 0 where
  pub few : length W < leading
  pub top : (p : ℕ) → p < length W → leading ≤ word_of W p → word_of W p ≡ end p
  pub low : (p : ℕ) → p < length W → word_of W p < leading → word_of W p < length W
  pub same : (p : ℕ) → p < length W → word_of W p < leading → end (word_of W p) ≡ end p
  pub near : (p : ℕ) → p < length W → word_of W p < leading → far (word_of W p) < far p
  pub high : (p : ℕ) → p < length W → leading ≤ end p
  pub soon : (p : ℕ) → p < length W → far p ≤ 4 ^ top_level

-- what a word leads to
unfoldable pub leads_to : (ℕ → ℕ) → ℕ → ℕ
leads_to end word = cond (ltb word leading) (end word) word

-- how many steps are left from a word, at most k
unfoldable pub steps_of : List ℕ → ℕ → ℕ → ℕ
steps_of W zero word = 0
steps_of W (suc k) word = cond (ltb word leading) (suc (steps_of W k (word_of W word))) 0

-- what following a word asks, and what it gives
pub record Tracing (W : List ℕ) (word : ℕ) : Type 0 where
  pub end : ℕ → ℕ
  pub far : ℕ → ℕ
  pub ends : Ends W end far
  pub there : word < leading → word < length W

abbrev pub Traced : List ℕ → ℕ → ℕ → Type 0
Traced W word r = (end far : ℕ → ℕ) → Ends W end far → r ≡ leads_to end word

-- the node whose word is the second step of p's way: p's word, or p itself where that is a leader's
unfoldable pub next_of : ℕ → ℕ → ℕ
next_of word p = cond (ltb word leading) word p

-- what settling asks, and what it leaves: each word is the one that it led to
pub record Ending (W : List ℕ) : Type 0 where
  pub end : ℕ → ℕ
  pub far : ℕ → ℕ
  pub ends : Ends W end far

pub record Settled (W W' : List ℕ) : Type 0 where
  pub long : length W' ≡ length W
  pub all : (end far : ℕ → ℕ) → Ends W end far → (p : ℕ) → p < length W → word_of W' p ≡ end p

-- what taking the leaders' mark off the words asks and leaves: the numbers
abbrev pub Finishing : List ℕ → Type 0
Finishing W = (p : ℕ) → p < length W → leading ≤ word_of W p

pub record Finished (W W' : List ℕ) : Type 0 where
  pub long : length W' ≡ length W
  pub all : (p : ℕ) → p < length W → word_of W' p ≡ word_of W p - leading
