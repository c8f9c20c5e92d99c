-- "So no VC is ever more than V slots behind, however long it is silent": what rotation keeps, exactly. By document 02 (vi)
-- rotation goes over V + 256, so no connection is ever more than V + 256 slots behind.
use Rattle.std.specs.Prelude.{ℕ, ◌+◌, ◌-◌, ◌%◌, ◌≤◌, ◌<◌, ◌≡◌, false, List, length}
use Rattle.meaning.specs.Plain.{when◌then◌else◌, ◌≤?◌}
use Rattle.meaning.specs.Numbers.{connections_in, unused, words_in, most_v}
use Rattle.meaning.specs.State.{State}
use Rattle.meaning.specs.Words.{Connection, connection_at}

-- "V, 2 to 1,024": the longest that a connection can be behind, below 2^32
unfoldable pub longest : ℕ
longest = connections_in most_v

-- how many slots ago rotation, which goes over R connections, named the connection c, if it ever did: at most R - 1
unfoldable pub since : ℕ → ℕ → ℕ → ℕ
since R rotation c = when c ≤? rotation then rotation - c else (rotation + R - c)

-- an open connection was brought up to date at most `most` slots ago; k slots have been served
abbrev pub Behind : ℕ → ℕ → Connection → Type 0
Behind k most vc = (vc.opened ≡ 0 → ⊥) → (vc.last ≤ k) × (k ≤ vc.last + most)

-- of the words of all connections, V being z, where most gives for each how far behind it may be
pub record Recent (z k : ℕ) (most : ℕ → ℕ) (words : List ℕ) : Type 0 where
  pub long : length words ≡ words_in z
  pub behind : (c : ℕ) → unused z c ≡ false → c < connections_in z → Behind k (most c) (connection_at words c)

-- between two calls: rotation is (k + V + 255) modulo V + 256, and no open connection is behind by more slots than since rotation
-- named it
pub record Kept (u : State) : Type 0 where
  pub turns : u.ctl.rotation ≡ (u.ctl.t + connections_in u.ctl.v - 1) % connections_in u.ctl.v
  pub recent : Recent u.ctl.v u.ctl.t (since (connections_in u.ctl.v) u.ctl.rotation) u.words
