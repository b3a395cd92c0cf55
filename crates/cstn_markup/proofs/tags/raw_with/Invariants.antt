use Rattle.std.proofs.Common.{◌≡◌, ◌-◌, IsSome}
use Rattle.cstn_markup.specs.Tokens.{tail_at, attributes_at, raw_with}
use Rattle.cstn_markup.proofs.tags.raw_with.Given as goal

abbrev pub invariant-loop-read : goal.invariant-loop-read
invariant-loop-read l = record {
  right : IsSome (tail_at (32 - l._read) l.rest);
  same : raw_with l.name (attributes_at (32 - l._read) l.rest) ≡ raw_with l.name (attributes_at 32 l.behind);
}
