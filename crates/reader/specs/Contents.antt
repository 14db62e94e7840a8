-- What a plan text says, in plain numbers. Assumes nothing.
use Rattle.std.specs.Prelude.{ℕ, List, slice_index_or}
use Rattle.gates.specs.declared.gate_line.GateLine.{GateLine}

-- a burst of bytes, and num bytes for each den ticks; or a frame of so many bytes in each period of ticks, and its jitter
pub data Flow : Type 0 where
  bucket : ℕ → ℕ → ℕ → Flow
  periodic : ℕ → ℕ → ℕ → Flow

-- a flow of a class
pub record FlowEntry : Type 0 where
  pub class : ℕ
  pub flow : Flow

-- the largest frame of a class, and the room for its unsent bytes
pub record ClassEntry : Type 0 where
  pub largest : ℕ
  pub depth : ℕ

-- what the first three lines say: the port, the cycle and the number of gate lines
pub record Heading : Type 0 where
  pub port : ℕ
  pub cycle : ℕ
  pub gates : ℕ

-- the class c is the entry c of classes, and the flows stand in the order of the text
pub record Contents : Type 0 where
  pub port : ℕ
  pub cycle : ℕ
  pub gates : List GateLine
  pub classes : List ClassEntry
  pub flows : List FlowEntry

-- the largest frame of the class c
abbrev pub largest_of : List ClassEntry → ℕ → ℕ
largest_of cs c = (slice_index_or cs c (record { largest = 0; depth = 0 })).largest
