-- socketpair keeps a group valid.
use Rattle.std.proofs.Common.{◌≡◌, ◌⊎◌, inl, inr, ℕ, ◌+◌, ◌^◌, ◌<◌, ◌≤◌, Bool, true, false, ◌||◌, ◌&&◌, ◌==◌, not, List, [], ◌∷◌, ◌++◌, length, get_or, Option, Some, None, refl, ap, sym, ◌∙◌, arith}
use Rattle.std.specs.Prelude.{Any, find, IsTrue, nat_le, nat_lt}
use Rattle.std.specs.List.{flat_map, list_any}
use Rattle.std.proofs.lemmas.Bool.{leb-false, ltb-false}
use Rattle.std.proofs.lemmas.List.{length_push}
use Rattle.std.proofs.lemmas.List.Elements.{All-cons, All-nil, All-push, All-weaker}
use Rattle.std.proofs.lemmas.List.Folds.{list_any-append}
use Rattle.std.proofs.lemmas.List.Quantifiers.{Any-push}
use Rattle.descriptors.specs.Descriptors.{Installed, installed}
use Rattle.descriptors.specs.declared.opens.Open.{Open}
use Rattle.descriptors.specs.declared.opens.OpenKind.TheVariants as kinds
use Rattle.group_defs.specs.Cells.{sight}
use Rattle.group_defs.specs.Changes.{with_fds, with_open}
use Rattle.group_defs.specs.Descriptions.{IsOpen}
use Rattle.group_defs.specs.Group.{Group, is_runner}
use Rattle.group_defs.specs.Held.{is_at, is_end_held, is_held, pair_carries}
use Rattle.group_defs.specs.PairCalls.{is_seqpacket, socketpair, with_new_pair}
use Rattle.group_defs.specs.PipeCalls.{both_as, new_ends}
use Rattle.group_defs.specs.Streams.{PairEndsOnce, is_pair_end, pair_ends}
use Rattle.group_defs.specs.Valid.{AllHeld, GroupIsSound, GroupIsValid, PairHeld, TargetIsThere}
use Rattle.group_defs.specs.declared.frame.Proc.{Proc}
use Rattle.pipes_socks.specs.declared.streams.Pair.{Pair}
use Rattle.descriptors.specs.declared.opens.OpenKind.{OpenKind}
use Rattle.group_defs.specs.Descriptions.{CarriedValid}
use Rattle.group_defs.specs.Numbers.{MessagesAreBytes, NextFits}
use Rattle.pipes_socks.specs.Pairs.{PairFits, QueueFits}
use Rattle.std.proofs.lemmas.Bool.{ne_eqb}
use Rattle.std.proofs.lemmas.List.Sums.{length-filter}
use Rattle.rv64_isa.specs.Memory.{can_write}
use Rattle.rv64_isa.specs.Numbers.{bytes_of}
use Rattle.rv64_isa.specs.Registers.{a3}
use Rattle.rv64_isa.specs.declared.regs.Regs.{Regs}
use Rattle.group_laws.proofs.ByteLaws.{numbers_fit, one_store}
use Rattle.group_laws.proofs.CallerLaws.{fds_held, fds_sound}
use Rattle.group_laws.proofs.DescriptorCallLaws.{if_keeps, open_fds, own_fds}
use Rattle.group_laws.proofs.FdLaws.{EachAt, installed_all, installed_are}
use Rattle.group_laws.proofs.Lists.{rise_push, any_all, any_append_left, filter_none}
use Rattle.group_laws.proofs.OpenLaws.{one_more, open_held, open_sound}
use Rattle.group_laws.proofs.EndsLaws.{caller_at, caller_holds}
use Rattle.group_laws.proofs.ReplyLaws.{ReplyKeeps, changed_runs, maps_no_file}
use Rattle.group_laws.proofs.SettledLaws.{equal, or_left, or_right, or_split}

-- no description is an end of the next pair
no_ends : (g : Group) → GroupIsSound g → (side : ℕ) → pair_ends g.frame.opens g.frame.next.pair side ≡ 0
unfolding pair_ends
no_ends g s side = sym (length-filter (λ o. is_pair_end g.frame.next.pair side o.kind) g.frame.opens) ∙ ap length (filter_none (λ o. is_pair_end g.frame.next.pair side o.kind) g.frame.opens (λ k d lt. none (get_or g.frame.opens k d).kind (s.frame.opens.targets k d lt)))
  where
    there : (pair : ℕ) → Any (λ p. p.number ≡ pair) g.frame.pairs → pair < g.frame.next.pair
    there pair any = of_any (any_all (λ p. p.number ≡ pair) (λ p. p.number < g.frame.next.pair) g.frame.pairs any s.frame.pairs.below)
      where
        of_any : Any (λ p. (p.number ≡ pair) × (p.number < g.frame.next.pair)) g.frame.pairs → pair < g.frame.next.pair
        of_any (k, p, lt, is, both) = let same = both.0 in let less = both.1 in omega (arith, same, less)

    none : (k : OpenKind) → TargetIsThere g.frame.files g.frame.pipes g.frame.pairs k → is_pair_end g.frame.next.pair side k ≡ false
    none (kinds.PairEnd pair end) t = let lt = there pair t.0 in rw (ne_eqb pair g.frame.next.pair (λ same. omega (arith, lt, same))) refl
    none kinds.Nothing t = refl
    none kinds.Outside t = refl
    none (kinds.File object) t = refl
    none (kinds.PipeRead pipe) t = refl
    none (kinds.PipeWrite pipe) t = refl

-- a pair without ends and messages is sound
new_pair_sound : (g : Group) → length g.frame.pairs < 256 → g.frame.next.pair + 1 < 2 ^ 64 → GroupIsSound g → GroupIsSound (with_new_pair g)
unfolding NextFits PairEndsOnce PairFits QueueFits MessagesAreBytes CarriedValid
new_pair_sound g room next s =
    let f = g.frame in
    let p : Pair = record { number = f.next.pair; to0 = []; to1 = [] } in
    let zero_none = no_ends g s 0 in let one_none = no_ends g s 1 in
    record {
      frame = record {
        procs = s.frame.procs;
        maps = s.frame.maps;
        names = record { fds = s.frame.names.fds; carried = All-push (CarriedValid f.opens) f.pairs p s.frame.names.carried (λ k d lt. absurd (omega (arith, lt)), λ k d lt. absurd (omega (arith, lt))) };
        opens = record { count = s.frame.opens.count; rise = s.frame.opens.rise; below = s.frame.opens.below; positions = s.frame.opens.positions; targets = λ k d lt. target (get_or f.opens k d).kind (s.frame.opens.targets k d lt) };
        pipes = s.frame.pipes;
        pairs = record {
          count = let size = length_push f.pairs p in omega (arith, size, room);
          rise = rise_push (λ x. x.number) f.pairs p s.frame.pairs.rise s.frame.pairs.below;
          below = All-push (λ x. x.number < f.next.pair + 1) f.pairs p (All-weaker (λ x. x.number < f.next.pair) (λ x. x.number < f.next.pair + 1) (λ x lt. omega (arith, lt)) f.pairs s.frame.pairs.below) (omega arith);
          ends = All-push (PairEndsOnce f.opens) f.pairs p s.frame.pairs.ends (omega (arith, zero_none), omega (arith, one_none));
          sizes = All-push PairFits f.pairs p s.frame.pairs.sizes ((omega arith, λ k d lt. absurd (omega (arith, lt))), (omega arith, λ k d lt. absurd (omega (arith, lt))));
          bytes = All-push MessagesAreBytes f.pairs p s.frame.pairs.bytes (λ k d lt. absurd (omega (arith, lt)), λ k d lt. absurd (omega (arith, lt)));
        };
        objects = s.frame.objects;
        files = s.frame.files;
        out = s.frame.out;
        next = (let n = s.frame.next.0 in (n.0, n.1, n.2, next), s.frame.next.1, s.frame.next.2);
      };
      memory = s.memory;
    }
  where
    target : (k : OpenKind) → TargetIsThere g.frame.files g.frame.pipes g.frame.pairs k → TargetIsThere g.frame.files g.frame.pipes (with_new_pair g).frame.pairs k
    target kinds.Nothing t = t
    target kinds.Outside t = t
    target (kinds.File object) t = t
    target (kinds.PipeRead pipe) t = t
    target (kinds.PipeWrite pipe) t = t
    target (kinds.PairEnd pair end) t = (any_append_left (λ x. x.number ≡ pair) g.frame.pairs (record { number = g.frame.next.pair; to0 = []; to1 = [] } ∷ []) t.0, t.1)

module _ (g : Group) (p : Proc) (found : find (is_runner p.pid) g.frame.procs ≡ Some p) (v : GroupIsValid g) (low : g.frame.next.descr ≤ 2 ^ 63) (low_pair : g.frame.next.pair ≤ 2 ^ 63) where
  abbrev n : ℕ
  n = g.frame.next.pair

  abbrev d : ℕ
  d = g.frame.next.descr

  abbrev reader : Open
  reader = record { number = d; kind = kinds.PairEnd n 0; offset = 0; flags = 0 }

  abbrev writer : Open
  writer = record { number = d + 1; kind = kinds.PairEnd n 1; offset = 0; flags = 0 }

  abbrev made : Group
  made = new_ends (with_new_pair g) (kinds.PairEnd n 0) (kinds.PairEnd n 1)

  other_side : (b : Bool) → (b && (0 == 1)) ≡ false
  other_side true = refl
  other_side false = refl

  made_sound : length g.frame.opens ≤ 1022 → length g.frame.pairs < 256 → GroupIsSound made
  unfolding pair_ends
  made_sound room room_pair =
      let one = new_pair_sound g room_pair (omega (arith, low_pair)) v.sound in
      let there : Any (λ x. x.number ≡ n) (g.frame.pairs ++ record { number = n; to0 = []; to1 = [] } ∷ []) = Any-push (λ x. x.number ≡ n) g.frame.pairs (record { number = n; to0 = []; to1 = [] }) refl in
      let two = open_sound (with_new_pair g) (kinds.PairEnd n 0) 0 (omega (arith, room)) (omega (arith, low)) (no_ends g v.sound 0) (refl, refl) (there, omega arith) one in
      let size = length_push g.frame.opens reader in
      open_sound (with_open (with_new_pair g) (kinds.PairEnd n 0) 0) (kinds.PairEnd n 1) 0 (omega (arith, room, size)) (omega (arith, low)) (one_more (λ o. is_pair_end n 1 o.kind) g.frame.opens reader (other_side (n == n)) ∙ no_ends g v.sound 1) (refl, refl) (there, omega arith) two

  -- end 0 is held by the caller
  has_both : (procs : List Proc) → list_any (is_at d) procs ≡ true → is_end_held procs made.frame.opens n 0 ≡ true
  unfolding is_end_held
  has_both procs at =
      let t : Open → Bool = λ o. is_pair_end n 0 o.kind && list_any (is_at o.number) procs in
      list_any-append t (g.frame.opens ++ reader ∷ []) (writer ∷ []) ∙ or_left (list_any t (g.frame.opens ++ reader ∷ [])) (list_any t (writer ∷ []))
      (list_any-append t g.frame.opens (reader ∷ []) ∙ or_right (list_any t g.frame.opens) (list_any t (reader ∷ [])) (rw (equal n n refl, at) refl))

  -- what was held is held beside one more pair
  held_more : (procs : List Proc) (k : ℕ) → is_held procs g.frame.pairs k ≡ true → is_held procs made.frame.pairs k ≡ true
  unfolding is_held
  held_more procs k e = by_side (or_split (list_any (is_at k) procs) (list_any (pair_carries k) g.frame.pairs) e)
    where
      by_side : (list_any (is_at k) procs ≡ true) ⊎ (list_any (pair_carries k) g.frame.pairs ≡ true) → (list_any (is_at k) procs || list_any (pair_carries k) made.frame.pairs) ≡ true
      by_side (inl at) = or_left (list_any (is_at k) procs) (list_any (pair_carries k) made.frame.pairs) at
      by_side (inr carried) = or_right (list_any (is_at k) procs) (list_any (pair_carries k) made.frame.pairs) (list_any-append (pair_carries k) g.frame.pairs (record { number = n; to0 = []; to1 = [] } ∷ []) ∙ or_left (list_any (pair_carries k) g.frame.pairs) (list_any (pair_carries k) (record { number = n; to0 = []; to1 = [] } ∷ [])) carried)

  socketpair_valid : (i : Installed) → installed p.fds (d ∷ (d + 1) ∷ []) ≡ Some i → length g.frame.opens ≤ 1022 → length g.frame.pairs < 256 → GroupIsValid (with_fds made p i.fds)
  unfolding IsOpen PairHeld
  socketpair_valid i e room room_pair =
      let a = installed_are (d ∷ (d + 1) ∷ []) p.fds i e (own_fds g p found v) in
      let opens : List Open = made.frame.opens in
      let first : IsOpen opens d = any_append_left (λ o. o.number ≡ d) (g.frame.opens ++ reader ∷ []) (writer ∷ []) (Any-push (λ o. o.number ≡ d) g.frame.opens reader refl) in
      let second : IsOpen opens (d + 1) = Any-push (λ o. o.number ≡ d + 1) (g.frame.opens ++ reader ∷ []) writer refl in
      let old : EachAt (IsOpen opens) p.fds = All-weaker (λ x. IsOpen g.frame.opens x.1) (λ x. IsOpen opens x.1) (λ x is. any_append_left (λ o. o.number ≡ x.1) (g.frame.opens ++ reader ∷ []) (writer ∷ []) (any_append_left (λ o. o.number ≡ x.1) g.frame.opens (reader ∷ []) is)) p.fds (open_fds g p found v) in
      let each = installed_all (IsOpen opens) (d ∷ (d + 1) ∷ []) p.fds i e old (All-cons (IsOpen opens) d ((d + 1) ∷ []) first (All-cons (IsOpen opens) (d + 1) [] second (All-nil (IsOpen opens)))) in
      let base : AllHeld (with_fds g p i.fds).frame = fds_held g p i.fds found a.old v.held in
      let one : AllHeld (record (with_fds g p i.fds).frame { opens = g.frame.opens ++ reader ∷ [] }) = open_held (with_fds g p i.fds) reader (caller_holds g p i.fds d found (a.new 0 d (omega arith))) base in
      let g1 : Group = record (with_fds g p i.fds) { frame = record (with_fds g p i.fds).frame { opens = g.frame.opens ++ reader ∷ [] } } in
      let two = open_held g1 writer (caller_holds g p i.fds (d + 1) found (a.new 1 d (omega arith))) one in
      let procs : List Proc = (with_fds g p i.fds).frame.procs in
      let at : list_any (is_at d) procs ≡ true = caller_at g p i.fds d found (a.new 0 d (omega arith)) in
      record {
        sound = fds_sound made p i.fds found a.are each (made_sound room room_pair);
        held = record {
          opens = All-weaker (λ o. IsTrue (is_held procs g.frame.pairs o.number)) (λ o. IsTrue (is_held procs made.frame.pairs o.number)) (λ o. held_more procs o.number) opens two.opens;
          objects = two.objects;
          pipes = two.pipes;
          pairs = All-push (PairHeld procs opens) g.frame.pairs (record { number = n; to0 = []; to1 = [] }) two.pairs (or_left (is_end_held procs opens n 0) (is_end_held procs opens n 1) (has_both procs at), λ gone. refl, λ gone. refl);
        };
      }

  pub socketpair_keeps : (r : Regs) → ReplyKeeps p (socketpair g p (sight g p) r)
  socketpair_keeps r =
      if_keeps p (not (is_seqpacket r)) _ _ (λ e. (omega arith, omega arith)) (λ e. by_installed (installed p.fds (d ∷ (d + 1) ∷ [])) refl)
    where
      by_installed : (o : Option Installed) → installed p.fds (d ∷ (d + 1) ∷ []) ≡ o → ReplyKeeps p (both_as g p (sight g p) (a3 r) (nat_le 256 (length g.frame.pairs)) made o)
      by_installed None e = (omega arith, omega arith)
      by_installed (Some i) e =
          if_keeps p (nat_lt 1022 (length g.frame.opens)) _ _ (λ e. (omega arith, omega arith)) (λ room.
          if_keeps p (nat_le 256 (length g.frame.pairs)) _ _ (λ e. (omega arith, omega arith)) (λ room_pair.
          if_keeps p (not (can_write (sight g p) (a3 r) 8)) _ _ (λ e. (omega arith, omega arith)) (λ can. record {
            value_fits = omega arith;
            valid = socketpair_valid i e (ltb-false 1022 (length g.frame.opens) room) (leb-false 256 (length g.frame.pairs) room_pair);
            caller = record p { fds = i.fds };
            runs = changed_runs made p (λ q. record q { fds = i.fds }) (λ q e. e) found;
            bytes = one_store (a3 r) (flat_map (bytes_of 4) i.numbers) (numbers_fit i.numbers);
            no_file = maps_no_file g p found v;
          })))
