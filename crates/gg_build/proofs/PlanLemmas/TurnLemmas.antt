-- The turns of a memory that stands alone: its ports, with the channels of their fields.
use Rattle.std.proofs.Common.{◌≡◌, ℕ, suc, ◌<◌, List, [], ◌∷◌, ◌++◌, length, map, get_or, refl, sym, ◌∙◌, ap, ap₂, subst, arith, Option}
use Rattle.std.specs.Prelude.{All}
use Rattle.std.proofs.lemmas.List.{length-map, get_or-map, map-append}
use Rattle.std.proofs.lemmas.List.Elements.{All-nil, All-cons}
use Rattle.gg_flat.specs.declared.memory.UnderWrite.TheVariants.{Old, New, Undefined}
use Rattle.gg_flat.specs.declared.memory.Latency.{Latency}
use Rattle.gg_flat.specs.declared.memory.Latency.TheVariants.{Zero, One}
use Rattle.gg_flat.specs.declared.memory.Reader.{Reader}
use Rattle.gg_flat.specs.declared.memory.Writer.{Writer}
use Rattle.gg_flat.specs.Line.{value_at}
use Rattle.gg_flat.specs.Served.{Access, ByReader, ByWriter, by_readers, by_writers, due_of}
use Rattle.gg_cut_plan.specs.declared.wires.Wire.{Wire}
use Rattle.gg_node.specs.Machine.{Port}
use Rattle.gg_node.specs.Step.{fields_of}
use Rattle.gg_memunit.specs.MemoryUnit.{port_of, ports_by}
use Rattle.gg_net.specs.Network.{Frame, IsAtIn, wire_at}
use Rattle.gg_net.specs.inside.Fits.{AreTaken, IsTurnOf, AreTurnsOf, places_of}
use Rattle.gg_build.proofs.PlanLemmas.PortLemmas.{IsFitPort}
use Rattle.gg_build.specs.plan.CutLayout.{channel_of, turn_of}
use Rattle.gg_flat.specs.Renaming.{renamed_reader, renamed_writer}
use Rattle.gg_part.specs.Part.{in_whole}

-- ---- ports with the signal numbers of the whole circuit

module _ (outer inner : List ℕ) (outer_clocks inner_clocks : List (Option ℕ)) where
  -- the number that a signal of a part of a part has in the whole circuit
  abbrev pub number_of : ℕ → ℕ
  number_of s = value_at outer (value_at inner s)

  abbrev pub reader_of : Reader → Reader
  reader_of reader = renamed_reader (in_whole outer outer_clocks) (renamed_reader (in_whole inner inner_clocks) reader)

  abbrev pub writer_of : Writer → Writer
  writer_of writer = renamed_writer (in_whole outer outer_clocks) (renamed_writer (in_whole inner inner_clocks) writer)

  abbrev pub access_of : Access → Access
  access_of (ByReader r reader) = ByReader r (reader_of reader)
  access_of (ByWriter w writer) = ByWriter w (writer_of writer)

  abbrev pub renamed_port : Port → Port
  renamed_port port = record { number = port.number; access = access_of port.access }

  readers-renamed : (r : ℕ) (readers : List Reader) → by_readers r (map reader_of readers) ≡ map access_of (by_readers r readers)
  readers-renamed r [] = refl
  readers-renamed r (reader ∷ readers) = ap (λ (l : List Access). ByReader r (reader_of reader) ∷ l) (readers-renamed (suc r) readers)

  writers-renamed : (w : ℕ) (writers : List Writer) → by_writers w (map writer_of writers) ≡ map access_of (by_writers w writers)
  writers-renamed w [] = refl
  writers-renamed w (writer ∷ writers) = ap (λ (l : List Access). ByWriter w (writer_of writer) ∷ l) (writers-renamed (suc w) writers)

  due-renamed : (latency : Latency) (readers : List Reader) (writers : List Writer) → due_of latency (map reader_of readers) (map writer_of writers) ≡ map access_of (due_of latency readers writers)
  due-renamed Zero readers writers = writers-renamed 0 writers
  due-renamed (One Old) readers writers = ap₂ (λ (a b : List Access). a ++ b) (readers-renamed 0 readers) (writers-renamed 0 writers) ∙ sym (map-append access_of (by_readers 0 readers) (by_writers 0 writers))
  due-renamed (One Undefined) readers writers = ap₂ (λ (a b : List Access). a ++ b) (readers-renamed 0 readers) (writers-renamed 0 writers) ∙ sym (map-append access_of (by_readers 0 readers) (by_writers 0 writers))
  due-renamed (One New) readers writers = ap₂ (λ (a b : List Access). a ++ b) (writers-renamed 0 writers) (readers-renamed 0 readers) ∙ sym (map-append access_of (by_writers 0 writers) (by_readers 0 readers))

  port-renamed : (n : ℕ) (accesses : List Access) → map (port_of n) (map access_of accesses) ≡ map renamed_port (map (port_of n) accesses)
  port-renamed n [] = refl
  port-renamed n (ByReader r reader ∷ accesses) = ap (λ (l : List Port). port_of n (ByReader r (reader_of reader)) ∷ l) (port-renamed n accesses)
  port-renamed n (ByWriter w writer ∷ accesses) = ap (λ (l : List Port). port_of n (ByWriter w (writer_of writer)) ∷ l) (port-renamed n accesses)

  pub ports-renamed : (latency : Latency) (readers : List Reader) (writers : List Writer) → ports_by latency (map reader_of readers) (map writer_of writers) ≡ map renamed_port (ports_by latency readers writers)
  ports-renamed latency readers writers =
      ap (λ n. map (port_of n) (due_of latency (map reader_of readers) (map writer_of writers))) (length-map readers reader_of)
      ∙ ap (map (port_of (length readers))) (due-renamed latency readers writers)
      ∙ port-renamed (length readers) (due_of latency readers writers)

  fields-renamed : (access : Access) → fields_of (access_of access) ≡ map number_of (fields_of access)
  fields-renamed (ByReader r reader) = refl
  fields-renamed (ByWriter w writer) = refl

  -- ---- in a network

  module _ (frame : Frame) (wires : List Wire) (m n : ℕ) (at : (x : ℕ) → x < n → IsAtIn frame.wires m x (channel_of wires (number_of x))) where
    fields-back : (xs : List ℕ) → All (λ x. x < n) xs → places_of frame (map (channel_of wires) (map number_of xs)) ≡ xs
    fields-back [] low = refl
    fields-back (x ∷ xs) low =
        let first : (wire_at frame.wires (channel_of wires (number_of x))).place ≡ x = (at x (low 0 0 (omega arith))).place in
        let rest : places_of frame (map (channel_of wires) (map number_of xs)) ≡ xs = fields-back xs (λ k d lt. low (suc k) d (omega (arith, lt))) in
        ap₂ (λ (y : ℕ) (ys : List ℕ). y ∷ ys) first rest

    fields-taken : (xs : List ℕ) → All (λ x. x < n) xs → AreTaken frame m (map (channel_of wires) (map number_of xs))
    fields-taken [] low = All-nil (λ d. (d < length frame.wires) × ((wire_at frame.wires d).consumer ≡ m))
    fields-taken (x ∷ xs) low =
        let first = at x (low 0 0 (omega arith)) in
        All-cons (λ d. (d < length frame.wires) × ((wire_at frame.wires d).consumer ≡ m)) (channel_of wires (number_of x)) (map (channel_of wires) (map number_of xs)) (first.known, first.machine)
        (fields-taken xs (λ k d lt. low (suc k) d (omega (arith, lt))))

    is-turn : (count : ℕ) (port : Port) → IsFitPort n count port → IsTurnOf frame m port (turn_of wires (renamed_port port))
    is-turn count port fit =
        let same = fields-renamed port.access in
        record {
          number = refl;
          fields = ap (λ (l : List ℕ). places_of frame (map (channel_of wires) l)) same ∙ fields-back (fields_of port.access) fit.fields;
          taken = subst (λ (l : List ℕ). AreTaken frame m (map (channel_of wires) l)) (sym same) (fields-taken (fields_of port.access) fit.fields);
        }

    pub are-turns : (count : ℕ) (ports : List Port) → All (IsFitPort n count) ports → AreTurnsOf frame m ports (map (turn_of wires) (map renamed_port ports))
    are-turns count ports fit =
        let inner_count = length-map ports renamed_port in
        record {
          count = length-map (map renamed_port ports) (turn_of wires) ∙ inner_count;
          each = λ i port turn lt.
              let is : get_or (map (turn_of wires) (map renamed_port ports)) i turn ≡ turn_of wires (renamed_port (get_or ports i port)) =
              get_or-map (turn_of wires) (map renamed_port ports) i (renamed_port port) turn (omega (arith, lt, inner_count)) ∙ ap (turn_of wires) (get_or-map renamed_port ports i port (renamed_port port) lt) in
              subst (IsTurnOf frame m (get_or ports i port)) (sym is) (is-turn count (get_or ports i port) (fit i port lt));
        }

    -- the turns of the memory in the whole circuit are the turns of the memory that stands alone
    pub turns-alone : (count : ℕ) (latency : Latency) (readers : List Reader) (writers : List Writer) → All (IsFitPort n count) (ports_by latency readers writers) → AreTurnsOf frame m (ports_by latency readers writers) (map (turn_of wires) (ports_by latency (map reader_of readers) (map writer_of writers)))
    turns-alone count latency readers writers fit =
        subst (λ (l : List Port). AreTurnsOf frame m (ports_by latency readers writers) (map (turn_of wires) l)) (sym (ports-renamed latency readers writers)) (are-turns count (ports_by latency readers writers) fit)
