-- The letters so far are those of as many words, and the words go on behind them.
use Rattle.std.proofs.Common.{◌≡◌, ◌≤◌, ◌-◌, take, length}
use Rattle.server_outside.specs.Streams.{stream_letters}
use Rattle.server_outside.proofs.chacha_draws.next_letters.Given as goal

abbrev pub invariant-letters : goal.invariant-letters
invariant-letters l = record {
  within : l.count ≤ 20;
  long : length l.letters ≡ 20;
  drawn : (take l.count l.letters, l.words) ≡ stream_letters l.count l.initial.words;
}

abbrev pub decreases-letters : goal.decreases-letters
decreases-letters l = 20 - l.count
