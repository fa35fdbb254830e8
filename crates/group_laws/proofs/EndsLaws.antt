-- pipe2 keeps a group valid.
use Rattle.std.proofs.Common.{◌≡◌, ℕ, ◌+◌, ◌^◌, ◌<◌, ◌≤◌, Bool, true, ◌==◌, not, List, [], ◌∷◌, ◌++◌, length, Option, Some, None, refl, ap, ◌∙◌, arith}
use Rattle.std.specs.Prelude.{Any, find, nat_le, nat_lt}
use Rattle.std.specs.List.{flat_map, list_any}
use Rattle.std.proofs.lemmas.Bool.{leb-false, ltb-false}
use Rattle.std.proofs.lemmas.List.{length_push}
use Rattle.std.proofs.lemmas.List.Elements.{All-cons, All-nil, All-push, All-weaker}
use Rattle.std.proofs.lemmas.List.Folds.{list_any-append}
use Rattle.std.proofs.lemmas.List.Quantifiers.{Any-push}
use Rattle.descriptors.specs.Descriptors.{Installed, installed}
use Rattle.descriptors.specs.declared.opens.Open.{Open}
use Rattle.descriptors.specs.declared.opens.OpenKind.TheVariants as kinds
use Rattle.group_defs.specs.Calls.{is_cloexec_or_none}
use Rattle.group_defs.specs.Cells.{sight}
use Rattle.group_defs.specs.Changes.{with_fds, with_open}
use Rattle.group_defs.specs.Descriptions.{IsOpen}
use Rattle.group_defs.specs.Group.{Group, is_runner}
use Rattle.group_defs.specs.Held.{has_reader, has_writer, is_at, is_held}
use Rattle.group_defs.specs.PipeCalls.{both_as, new_ends, pipe2, with_new_pipe}
use Rattle.group_defs.specs.Streams.{reads_pipe, writers, writes_pipe}
use Rattle.group_defs.specs.Valid.{AllHeld, GroupIsSound, GroupIsValid, PipeHeld}
use Rattle.group_defs.specs.declared.frame.Proc.{Proc}
use Rattle.rv64_isa.specs.Memory.{can_write}
use Rattle.rv64_isa.specs.Numbers.{bytes_of, low_word}
use Rattle.rv64_isa.specs.Registers.{a0, a1}
use Rattle.rv64_isa.specs.declared.regs.Regs.{Regs}
use Rattle.group_laws.proofs.ByteLaws.{numbers_fit, one_store}
use Rattle.group_laws.proofs.CallerLaws.{fds_held, fds_sound}
use Rattle.group_laws.proofs.DescriptorCallLaws.{if_keeps, open_fds, own_fds}
use Rattle.group_laws.proofs.FdLaws.{EachAt, installed_all, installed_are}
use Rattle.group_laws.proofs.Lists.{any_append_left, any_weaker, found_is, true_any}
use Rattle.group_laws.proofs.OpenLaws.{new_pipe_sound, no_ends, one_more, open_held, open_sound}
use Rattle.group_laws.proofs.ReplyLaws.{ReplyKeeps, changed_runs, maps_no_file}
use Rattle.group_laws.proofs.SettledLaws.{equal, held_by_fd, or_left, or_right}

-- the caller holds what it has a descriptor at
pub caller_at : (g : Group) (p : Proc) (fds : List (ℕ × ℕ)) (n : ℕ) → find (is_runner p.pid) g.frame.procs ≡ Some p → Any (λ d. d.1 ≡ n) fds → list_any (is_at n) (with_fds g p fds).frame.procs ≡ true
caller_at g p fds n found at =
    let after : List Proc = (with_fds g p fds).frame.procs in
    let runs = changed_runs g p (λ q. record q { fds = fds }) (λ q e. e) found in
    let here : is_at n (record p { fds = fds }) ≡ true = true_any (λ d. d.1 == n) fds (any_weaker (λ d. d.1 ≡ n) (λ d. (d.1 == n) ≡ true) fds (λ d e. equal d.1 n e) at) in
    true_any (is_at n) after (any_weaker (λ q. (q ≡ record p { fds = fds }) × (is_runner p.pid q ≡ true)) (λ q. is_at n q ≡ true) after (λ q both. ap (is_at n) both.0 ∙ here) (found_is (is_runner p.pid) after (record p { fds = fds }) runs))

pub caller_holds : (g : Group) (p : Proc) (fds : List (ℕ × ℕ)) (n : ℕ) → find (is_runner p.pid) g.frame.procs ≡ Some p → Any (λ d. d.1 ≡ n) fds → is_held (with_fds g p fds).frame.procs g.frame.pairs n ≡ true
caller_holds g p fds n found at = held_by_fd (with_fds g p fds).frame.procs g.frame.pairs n (caller_at g p fds n found at)

module _ (g : Group) (p : Proc) (found : find (is_runner p.pid) g.frame.procs ≡ Some p) (v : GroupIsValid g) (low : g.frame.next.descr ≤ 2 ^ 63) (low_pipe : g.frame.next.pipe ≤ 2 ^ 63) where
  abbrev n : ℕ
  n = g.frame.next.pipe

  abbrev d : ℕ
  d = g.frame.next.descr

  abbrev reader : Open
  reader = record { number = d; kind = kinds.PipeRead n; offset = 0; flags = 0 }

  abbrev writer : Open
  writer = record { number = d + 1; kind = kinds.PipeWrite n; offset = 0; flags = 0 }

  abbrev made : Group
  made = new_ends (with_new_pipe g) (kinds.PipeRead n) (kinds.PipeWrite n)

  made_sound : length g.frame.opens ≤ 1022 → length g.frame.pipes < 256 → GroupIsSound made
  unfolding writers
  made_sound room room_pipe =
      let none = no_ends g v.sound in
      let one = new_pipe_sound g room_pipe (omega (arith, low_pipe)) v.sound in
      let there : Any (λ x. x.number ≡ n) (g.frame.pipes ++ record { number = n; bytes = [] } ∷ []) = Any-push (λ x. x.number ≡ n) g.frame.pipes (record { number = n; bytes = [] }) refl in
      let two = open_sound (with_new_pipe g) (kinds.PipeRead n) 0 (omega (arith, room)) (omega (arith, low)) none.0 (refl, refl) there one in
      let size = length_push g.frame.opens reader in
      open_sound (with_open (with_new_pipe g) (kinds.PipeRead n) 0) (kinds.PipeWrite n) 0 (omega (arith, room, size)) (omega (arith, low)) (one_more (λ o. writes_pipe n o.kind) g.frame.opens reader refl ∙ none.1) (refl, refl) there two

  has_both : has_reader made.frame.opens n ≡ true
  unfolding has_reader
  has_both =
      let r : Open → Bool = λ o. reads_pipe n o.kind in
      list_any-append r (g.frame.opens ++ reader ∷ []) (writer ∷ []) ∙ or_left (list_any r (g.frame.opens ++ reader ∷ [])) (list_any r (writer ∷ []))
      (list_any-append r g.frame.opens (reader ∷ []) ∙ or_right (list_any r g.frame.opens) (list_any r (reader ∷ [])) (rw (equal n n refl) refl))

  pipe2_valid : (i : Installed) → installed p.fds (d ∷ (d + 1) ∷ []) ≡ Some i → length g.frame.opens ≤ 1022 → length g.frame.pipes < 256 → GroupIsValid (with_fds made p i.fds)
  unfolding IsOpen PipeHeld
  pipe2_valid i e room room_pipe =
      let a = installed_are (d ∷ (d + 1) ∷ []) p.fds i e (own_fds g p found v) in
      let opens : List Open = made.frame.opens in
      let first : IsOpen opens d = any_append_left (λ o. o.number ≡ d) (g.frame.opens ++ reader ∷ []) (writer ∷ []) (Any-push (λ o. o.number ≡ d) g.frame.opens reader refl) in
      let second : IsOpen opens (d + 1) = Any-push (λ o. o.number ≡ d + 1) (g.frame.opens ++ reader ∷ []) writer refl in
      let old : EachAt (IsOpen opens) p.fds = All-weaker (λ x. IsOpen g.frame.opens x.1) (λ x. IsOpen opens x.1) (λ x is. any_append_left (λ o. o.number ≡ x.1) (g.frame.opens ++ reader ∷ []) (writer ∷ []) (any_append_left (λ o. o.number ≡ x.1) g.frame.opens (reader ∷ []) is)) p.fds (open_fds g p found v) in
      let each = installed_all (IsOpen opens) (d ∷ (d + 1) ∷ []) p.fds i e old (All-cons (IsOpen opens) d ((d + 1) ∷ []) first (All-cons (IsOpen opens) (d + 1) [] second (All-nil (IsOpen opens)))) in
      let base : AllHeld (with_fds g p i.fds).frame = fds_held g p i.fds found a.old v.held in
      let one : AllHeld (record (with_fds g p i.fds).frame { opens = g.frame.opens ++ reader ∷ [] }) = open_held (with_fds g p i.fds) reader (caller_holds g p i.fds d found (a.new 0 d (omega arith))) base in
      let g1 : Group = record (with_fds g p i.fds) { frame = record (with_fds g p i.fds).frame { opens = g.frame.opens ++ reader ∷ [] } } in
      let two = open_held g1 writer (caller_holds g p i.fds (d + 1) found (a.new 1 d (omega arith))) one in
      record {
        sound = fds_sound made p i.fds found a.are each (made_sound room room_pipe);
        held = record {
          opens = two.opens;
          objects = two.objects;
          pipes = All-push (PipeHeld opens) g.frame.pipes (record { number = n; bytes = [] }) two.pipes (or_left (has_reader opens n) (has_writer opens n) has_both, λ gone. refl);
          pairs = two.pairs;
        };
      }

  pub pipe2_keeps : (r : Regs) → ReplyKeeps p (pipe2 g p (sight g p) r)
  pipe2_keeps r =
      if_keeps p (not (is_cloexec_or_none (low_word (a1 r)))) _ _ (λ e. (omega arith, omega arith)) (λ e. by_installed (installed p.fds (d ∷ (d + 1) ∷ [])) refl)
    where
      by_installed : (o : Option Installed) → installed p.fds (d ∷ (d + 1) ∷ []) ≡ o → ReplyKeeps p (both_as g p (sight g p) (a0 r) (nat_le 256 (length g.frame.pipes)) made o)
      by_installed None e = (omega arith, omega arith)
      by_installed (Some i) e =
          if_keeps p (nat_lt 1022 (length g.frame.opens)) _ _ (λ e. (omega arith, omega arith)) (λ room.
          if_keeps p (nat_le 256 (length g.frame.pipes)) _ _ (λ e. (omega arith, omega arith)) (λ room_pipe.
          if_keeps p (not (can_write (sight g p) (a0 r) 8)) _ _ (λ e. (omega arith, omega arith)) (λ can. record {
            value_fits = omega arith;
            valid = pipe2_valid i e (ltb-false 1022 (length g.frame.opens) room) (leb-false 256 (length g.frame.pipes) room_pipe);
            caller = record p { fds = i.fds };
            runs = changed_runs made p (λ q. record q { fds = i.fds }) (λ q e. e) found;
            bytes = one_store (a0 r) (flat_map (bytes_of 4) i.numbers) (numbers_fit i.numbers);
            no_file = maps_no_file g p found v;
          })))
